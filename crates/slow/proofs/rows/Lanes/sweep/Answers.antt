use Rattle.std.proofs.Common.{◌≡◌, ◌+◌, ◌*◌, ◌||◌, map, length, sym, ◌∙◌, subst, arith}
use Rattle.std.specs.List.{between}
use Rattle.std.proofs.lemmas.Bool.{or_parts, or_cases}
use Rattle.slow.specs.Areas.{at, lane_map}
use Rattle.slow.specs.Rows.{Relaxed, Swept}
use Rattle.slow.proofs.Places.{read_at, row_reads, rows_before}
use Rattle.slow.proofs.LaneMaps.{lane_is_entry, held_small}
use Rattle.slow.proofs.Sweeping.{swept_none, swept_more}
use Rattle.slow.proofs.rows.Lanes.sweep.Goals as goal

pub loop-v-init : goal.loop-v-init
loop-v-init g c u k bound h =
    let K = g.R.Rate.kind in
    let m = g.R.Rate.means in
    swept_none K g.met.R.Rate.laws (lane_map K c.args.self.now.n (map m c.args.self.now.rates.now)) c.args.self.now.n u k (at K (map m c.args.row.now)) h

pub offset_bounds-self-n : goal.offset_bounds-self-n
offset_bounds-self-n g c =
    omega (arith, rows_before c.args.self.now.n c.loop-v.v c.args.self.now.n c.loop-v-test.true, c.args.self.now.square)

pub loop-v-preserved : goal.loop-v-preserved
loop-v-preserved g c u k bound h =
    let K = g.R.Rate.kind in
    let X = g.met.R.Rate.laws in
    let m = g.R.Rate.means in
    let n = c.args.self.now.n in
    let v = c.loop-v.v in
    let lanes = c.args.self.now.rates.now in
    let below = c.loop-v-test.true in
    let out = between (n * v) (n * v + n) lanes in
    let now = at K (map m c.loop-v.row) in
    let new = at K (map m c.relax_from-changed.new.row) in
    let here = c.relax_from-changed.result in
    let changed = c.loop-v.changed in
    let base = m c.index-row-v.result in
    let long : length c.relax_from-changed.new.row ≡ n = omega arith in
    swept_more K X (lane_map K n (map m lanes)) n u k v (at K (map m c.args.row.now)) now new (at K (map m out)) base
    changed here (changed || here) c.args.self.now.few.not_too_many below bound (held_small K X m n lanes c.args.self.now.few c.args.self.now.square c.args.self.now.lanes_or_none)
    (c.loop-v.invariant u k bound h)
    (sym (read_at K m c.loop-v.row v c.index-row-v.result (omega arith) c.index-row-v.is))
    (λ w l. row_reads K m lanes (n * v) n w l ∙ sym (lane_is_entry K X n (map m lanes) v w below l))
    (subst (λ k. Relaxed K base (at K (map m out)) now new k here) long c.relax_from-changed.ensures)
    (or_parts changed here) (or_cases changed here)

pub returns : goal.returns
returns g c =
    let K = g.R.Rate.kind in
    let m = g.R.Rate.means in
    let all : c.loop-v.v ≡ c.args.self.now.n = omega arith in
    subst (λ j. Swept K (lane_map K c.args.self.now.n (map m c.args.self.now.rates.now)) c.args.self.now.n j (at K (map m c.args.row.now)) (at K (map m c.loop-v.row)) c.loop-v.changed)
    all c.loop-v.invariant
