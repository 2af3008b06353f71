use Rattle.std.proofs.Common.{take}
use Rattle.plan_text.specs.Texts.{GrownBy}
use Rattle.plan_text.specs.Pictures.{sides_text}
use Rattle.plan_text.proofs.picture.write_sides.Given as goal

abbrev pub invariant-loop-side : goal.invariant-loop-side
invariant-loop-side l = GrownBy l.fn.text l.text (sides_text l.laid.terminals (take l.side-index l.laid.sides.items))
