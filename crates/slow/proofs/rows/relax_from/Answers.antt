use Rattle.std.proofs.Common.{◌≡◌, ◌+◌, map, length, sym, ◌∙◌, subst, arith}
use Rattle.std.proofs.lemmas.List.{set-get_or}
use Rattle.slow.specs.Areas.{at}
use Rattle.slow.specs.Rows.{Relaxed}
use Rattle.slow.proofs.Relaxing.{relaxed_none, value_stored, value_kept}
use Rattle.slow.proofs.rows.relax_from.Goals as goal
use Rattle.slow.proofs.rows.relax_from.Goals.{then-better, else-better}

pub loop-w-init : goal.loop-w-init
loop-w-init g c =
    let K = g.R.Rate.kind in
    let m = g.R.Rate.means in
    relaxed_none K (m c.args.base) (at K (map m c.args.out.now)) (at K (map m c.args.row.now))

pub loop-w-preserved : goal.loop-w-preserved
loop-w-preserved g c =
    let K = g.R.Rate.kind in
    let m = g.R.Rate.means in
    let w = c.loop-w.w in
    let out = c.args.out.now in
    let row = c.loop-w.row in
    let old = at K (map m c.args.row.now) in
    let base = c.args.base in
    let lane = c.index-out-w in
    let held = c.index-row-w in
    let rate = c.join-rate in
    let better : c.better.result ≡ K.better (m rate.result) (m held.result) = subst (λ v. c.better.result ≡ K.better (m rate.result) (m v)) (sym held.is) c.better.ensures in
    elim c.if-better.branch [
      | then-better way ↦
          subst (λ list. Relaxed K (m base) (at K (map m out)) old (at K (map m list)) (w + 1) c.if-better.changed) (sym way.row-is)
          (subst (Relaxed K (m base) (at K (map m out)) old (at K (map m _)) (w + 1)) (sym way.changed-is)
          (value_stored K m out row old w base lane.result held.result rate.result c.loop-w.changed
          (omega arith) (omega arith) lane.is held.is rate.ensures c.loop-w.invariant c.better.result better way.if-better.true))
      | else-better way ↦
          subst (λ list. Relaxed K (m base) (at K (map m out)) old (at K (map m list)) (w + 1) c.if-better.changed) (sym (way.row-is ∙ set-get_or row w held.result))
          (subst (Relaxed K (m base) (at K (map m out)) old (at K (map m row)) (w + 1)) (sym way.changed-is)
          (value_kept K m out row old w base lane.result held.result rate.result c.loop-w.changed
          (omega arith) (omega arith) lane.is held.is rate.ensures c.loop-w.invariant c.better.result better way.if-better.false))
    ]

pub returns : goal.returns
returns g c =
    let K = g.R.Rate.kind in
    let m = g.R.Rate.means in
    let all : c.loop-w.w ≡ length c.loop-w.row = omega arith in
    subst (λ k. Relaxed K (m c.args.base) (at K (map m c.args.out.now)) (at K (map m c.args.row.now)) (at K (map m c.loop-w.row)) k c.loop-w.changed)
    all c.loop-w.invariant
