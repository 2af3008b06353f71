use Rattle.std.proofs.Common.{◌≡◌, ◌*◌, map, subst, arith}
use Rattle.slow.specs.Areas.{at, lane_map}
use Rattle.slow.specs.Rows.{Settles}
use Rattle.slow.proofs.LaneMaps.{lanes_below}
use Rattle.slow.proofs.Settling.{found_start, found_more, found_early}
use Rattle.slow.proofs.rows.Lanes.settle.Goals as goal

pub loop-init : goal.loop-init
loop-init g c u l h =
    let K = g.R.Rate.kind in
    let X = g.met.R.Rate.laws in
    let area = map g.R.Rate.means c.args.self.now.rates.now in
    found_start K X (lane_map K c.args.self.now.n area) c.args.self.now.n u (lanes_below K X c.args.self.now.n area) (at K (map g.R.Rate.means c.args.row.now)) h

pub returns-then-not-sweep : goal.returns-then-not-sweep
returns-then-not-sweep g c u l h =
    let K = g.R.Rate.kind in
    let X = g.met.R.Rate.laws in
    let m = g.R.Rate.means in
    let n = c.args.self.now.n in
    let i = c.loop.counter in
    let area = map m c.args.self.now.rates.now in
    let found = c.loop.invariant u l h in
    found_early K X (lane_map K n area) n u (lanes_below K X n area) i (at K (map m c.loop.row)) (at K (map m c.sweep.new.row)) c.sweep.result
    c.args.self.now.few.not_too_many found (c.sweep.ensures u (64 * i) (omega (arith, c.args.self.now.few.not_too_many)) found.row_of_trips)
    l c.if-not-sweep.true n (omega arith)

pub loop-preserved : goal.loop-preserved
loop-preserved g c u l h =
    let K = g.R.Rate.kind in
    let X = g.met.R.Rate.laws in
    let m = g.R.Rate.means in
    let n = c.args.self.now.n in
    let i = c.loop.counter in
    let area = map m c.args.self.now.rates.now in
    let found = c.loop.invariant u l h in
    found_more K X (lane_map K n area) n u (lanes_below K X n area) i (at K (map m c.loop.row)) (at K (map m c.sweep.new.row)) c.sweep.result
    c.args.self.now.few.not_too_many found (c.sweep.ensures u (64 * i) (omega (arith, c.args.self.now.few.not_too_many)) found.row_of_trips)

pub returns : goal.returns
returns g c =
    let K = g.R.Rate.kind in
    let m = g.R.Rate.means in
    let all : c.loop.counter ≡ c.args.self.now.n = omega arith in
    subst (λ k. Settles K (lane_map K c.args.self.now.n (map m c.args.self.now.rates.now)) c.args.self.now.n k (at K (map m c.args.row.now)) (at K (map m c.loop.row)))
    all c.loop.invariant
