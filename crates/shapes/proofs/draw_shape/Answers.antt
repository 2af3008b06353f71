use Rattle.std.proofs.Common.{sym, subst, arith}
use Rattle.shapes.proofs.Passing.{Passed, passed_none, passed_more, passed_all}
use Rattle.shapes.proofs.draw_shape.Goals as goal

pub loop-i-init : goal.loop-i-init
loop-i-init c = subst (Passed c.args.shape c.args.last 0) (sym c.put.ensures) (passed_none c.args.shape c.args.last c.args.links.now)

pub loop-i-preserved : goal.loop-i-preserved
loop-i-preserved c =
    passed_more c.args.shape c.args.last c.loop-i.links c.put_children.new.links c.loop-i.i c.loop-i.invariant (omega arith)
    c.put_children.ensures.unit c.put_children.ensures.split

pub returns : goal.returns
returns c = passed_all c.args.shape c.args.last c.loop-i.links c.loop-i.i (omega arith) c.loop-i.invariant
