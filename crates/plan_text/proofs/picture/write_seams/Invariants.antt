use Rattle.std.proofs.Common.{take}
use Rattle.plan_text.specs.Texts.{GrownBy}
use Rattle.plan_text.specs.Pictures.{seams_text}
use Rattle.plan_text.proofs.picture.write_seams.Given as goal

abbrev pub invariant-loop-piece : goal.invariant-loop-piece
invariant-loop-piece l = GrownBy l.fn.text l.text (seams_text l.laid.terminals l.laid.sides.items (take l.piece-index l.laid.pieces.items))
