use Rattle.std.proofs.Common.{append_assoc}
use Rattle.plan_text.specs.Pictures.{mark_text}
use Rattle.plan_text.proofs.Texts.{GrownBy-append, GrownBy-same, on_ok}
use Rattle.plan_text.proofs.picture.write_mark.Goals as goal

pub returns : goal.returns
unfolding mark_text
returns c =
    let before = c.args.text.now in
    let after = c.writeln-2.new.self in
    on_ok c.writeln-2.result c.writeln-2.ensures.bytes (λ end.
    GrownBy-same before after _ (mark_text c.args.at c.args.terminal)
    (GrownBy-append before c.writeln.new.self after _ _ c.in_ok-writeln.ensures.bytes end) (simp append_assoc))
