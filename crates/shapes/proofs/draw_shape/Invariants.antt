use Rattle.shapes.proofs.Passing.{Passed}
use Rattle.shapes.proofs.draw_shape.Given as goal

abbrev pub invariant-loop-i : goal.invariant-loop-i
invariant-loop-i l = Passed l.shape l.last l.i l.links
