use Rattle.routing.proofs.Putting.{put_pushed}
use Rattle.routing.proofs.waiting.put.Goals as goal

pub returns : goal.returns
returns c = record {
  put = put_pushed c.args.todo.now c.args.part c.if-part.false c.push.result c.push.new.self c.push.ensures.pushed;
  held = c.push.ensures.held;
}
