use Rattle.std.proofs.Common.{min, length, sym, subst}
use Rattle.pieces.specs.Marks.{SameSides}
use Rattle.pieces.proofs.Marking.{all_same}
use Rattle.division.proofs.divide_front.Goals as goal

pub returns-clause-same : goal.returns-clause-same
returns-clause-same c = subst (SameSides c.args.sides.now) (sym c.mark_leaves.ensures) (all_same c.args.sides.now c.cut_pieces.new.pieces (min c.args.count (length c.cut_pieces.new.pieces)))
