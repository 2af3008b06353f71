use Rattle.plan_text.specs.Texts.{GrownBy}
use Rattle.plan_text.specs.Pictures.{legends_text}
use Rattle.plan_text.proofs.picture.write_levels.Given as goal

abbrev pub invariant-loop-level : goal.invariant-loop-level
invariant-loop-level l = GrownBy l.fn.text l.text (legends_text l.level)
