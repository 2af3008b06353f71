use Rattle.plan_text.specs.Texts.{GrownBy}
use Rattle.plan_text.specs.Trees.{indent}
use Rattle.plan_text.proofs.tree.write_indent.Given as goal

-- the blanks so far are written
abbrev pub invariant-loop : goal.invariant-loop
invariant-loop l = GrownBy l.fn.text l.text (indent l.counter)
