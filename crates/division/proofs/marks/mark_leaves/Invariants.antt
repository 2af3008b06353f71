use Rattle.std.proofs.Common.{◌≡◌, length}
use Rattle.pieces.specs.Marks.{mark_all}
use Rattle.division.proofs.marks.mark_leaves.Given as goal

abbrev pub invariant-loop-p : goal.invariant-loop-p
invariant-loop-p l = l.sides ≡ mark_all l.fn.sides l.pieces (length l.yielded)
