use Rattle.quoting.proofs.Places.{half_same}
use Rattle.quoting.proofs.steps.half_of.Goals as goal

pub returns-clause-is : goal.returns-clause-is
returns-clause-is c =
    half_same c.args.records.pieces.now c.args.seam.low c.args.seam.high c.args.p c.piece.result c.in_ok-low.low c.in_ok-low.high
    c.piece.ensures c.in_ok-low.ensures.0 c.in_ok-low.ensures.1
