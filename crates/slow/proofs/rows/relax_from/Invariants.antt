use Rattle.std.proofs.Common.{map}
use Rattle.slow.specs.Areas.{at}
use Rattle.slow.specs.Rows.{Relaxed}
use Rattle.slow.proofs.rows.relax_from.Given as goal

abbrev pub invariant-loop-w : goal.invariant-loop-w
invariant-loop-w g l =
    let K = g.R.Rate.kind in
    let m = g.R.Rate.means in
    Relaxed K (m l.base) (at K (map m l.out)) (at K (map m l.initial.row)) (at K (map m l.row)) l.w l.changed
