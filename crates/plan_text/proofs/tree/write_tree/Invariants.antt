use Rattle.std.proofs.Common.{take}
use Rattle.plan_text.specs.Texts.{GrownBy}
use Rattle.plan_text.specs.Trees.{lines_from}
use Rattle.plan_text.proofs.tree.write_tree.Given as goal

-- the lines so far are written
abbrev pub invariant-loop-number : goal.invariant-loop-number
invariant-loop-number l = GrownBy l.initial.text l.text (lines_from l.laid.sides.items 0 (take l.number l.laid.pieces.items))
