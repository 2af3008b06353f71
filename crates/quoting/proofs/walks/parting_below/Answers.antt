use Rattle.std.proofs.Common.{arith}
use Rattle.pieces.specs.Sides.{ends_of}
use Rattle.quoting.proofs.Turns.{denied, descent_ends, both_turn, both_part, parts_there}
use Rattle.quoting.proofs.walks.parting_below.Goals as goal

pub returns-then-ends_there : goal.returns-then-ends_there
returns-then-ends_there c n d l tu tv =
    let w = c.loop.invariant n d l tu tv in
    parts_there n (ends_of c.args.records.sides.now) c.args.records.pieces.now c.args.p c.args.u c.args.v c.loop.q c.loop.counter c.piece-piece.result
    w.0 w.1 c.piece-piece.ensures (c.ends_there.ensures.0 c.if-ends_there.true)

pub returns-in_default : goal.returns-in_default
returns-in_default c n d l tu tv =
    let w = c.loop.invariant n d l tu tv in
    both_part n (ends_of c.args.records.sides.now) c.args.records.pieces.now c.args.p d.0 d.1 c.args.u c.args.v c.loop.q c.loop.counter c.piece-piece.result
    w.0 w.1 c.piece-piece.ensures (denied c.ends_there.ensures c.if-ends_there.false) c.common_child.result c.common_child.ensures c.in_default.is

pub loop-preserved : goal.loop-preserved
loop-preserved c n d l tu tv =
    let w = c.loop.invariant n d l tu tv in
    both_turn n (ends_of c.args.records.sides.now) c.args.records.pieces.now c.args.p d.0 d.1 c.args.u c.args.v c.loop.q c.loop.counter c.piece-piece.result
    w.0 w.1 c.piece-piece.ensures (denied c.ends_there.ensures c.if-ends_there.false) c.common_child.result c.in-Some.next c.common_child.ensures c.in-Some.is

pub returns : goal.returns
returns c n d l tu tv =
    absurd (descent_ends n (ends_of c.args.records.sides.now) c.args.records.pieces.now c.args.p d.0 d.1 c.args.u c.loop.q c.loop.counter (c.loop.invariant n d l tu tv).0 (omega arith))
