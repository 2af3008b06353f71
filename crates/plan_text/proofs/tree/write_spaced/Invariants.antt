use Rattle.std.proofs.Common.{take}
use Rattle.plan_text.specs.Texts.{GrownBy}
use Rattle.plan_text.specs.Trees.{spaced}
use Rattle.plan_text.proofs.tree.write_spaced.Given as goal

-- the terminals so far are written
abbrev pub invariant-loop-terminal : goal.invariant-loop-terminal
invariant-loop-terminal l = GrownBy l.fn.text l.text (spaced (take l.terminal-index l.terminals))
