use Rattle.std.proofs.Common.{arith}
use Rattle.pieces.specs.Sides.{ends_of}
use Rattle.quoting.proofs.Turns.{denied, descent_turn, descent_ends, begins_there}
use Rattle.quoting.proofs.walks.start_below.Goals as goal

pub returns-then-ends_there : goal.returns-then-ends_there
returns-then-ends_there c n d l t =
    begins_there n (ends_of c.args.records.sides.now) c.args.records.pieces.now c.args.p c.args.u c.loop.q c.loop.counter c.piece-piece.result
    (c.loop.invariant n d l t) c.piece-piece.ensures (c.ends_there.ensures.0 c.if-ends_there.true)

pub loop-preserved : goal.loop-preserved
loop-preserved c n d l t =
    descent_turn n (ends_of c.args.records.sides.now) c.args.records.pieces.now c.args.p d.0 d.1 c.args.u c.loop.q c.loop.counter c.child_towards-q.result c.piece-piece.result
    (c.loop.invariant n d l t) c.piece-piece.ensures (denied c.ends_there.ensures c.if-ends_there.false) c.child_towards-q.ensures

pub returns : goal.returns
returns c n d l t =
    absurd (descent_ends n (ends_of c.args.records.sides.now) c.args.records.pieces.now c.args.p d.0 d.1 c.args.u c.loop.q c.loop.counter (c.loop.invariant n d l t) (omega arith))
