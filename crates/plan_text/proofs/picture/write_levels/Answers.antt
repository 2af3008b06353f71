use Rattle.std.proofs.Common.{◌+◌}
use Rattle.plan_text.specs.Pictures.{legend_text, legends_text}
use Rattle.plan_text.proofs.Drawing.{one_more}
use Rattle.plan_text.proofs.Texts.{GrownBy-append, GrownBy-same}
use Rattle.plan_text.proofs.picture.write_levels.Goals as goal

pub loop-level-preserved : goal.loop-level-preserved
loop-level-preserved c =
    let level = c.loop-level.level in
    let before = c.args.text.now in
    let after = c.write_level.new.text in
    GrownBy-same before after _ (legends_text (level + 1)) (GrownBy-append before c.loop-level.text after _ _ c.loop-level.invariant c.in_ok-write_level.ensures) (one_more legend_text level)
