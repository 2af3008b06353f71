use Rattle.std.proofs.Common.{append_assoc}
use Rattle.plan_text.specs.Pictures.{broad_line_text}
use Rattle.plan_text.proofs.Texts.{GrownBy-append, GrownBy-same, on_ok}
use Rattle.plan_text.proofs.picture.write_broad_line.Goals as goal

pub returns : goal.returns
unfolding broad_line_text
returns c =
    let before = c.args.text.now in
    let after = c.writeln.new.self in
    on_ok c.writeln.result c.writeln.ensures.bytes (λ end.
    GrownBy-same before after _ (broad_line_text c.args.from c.args.to c.args.colour.now)
    (GrownBy-append before c.write_line.new.text after _ _
    (GrownBy-append before c.write.new.self c.write_line.new.text _ _ c.in_ok-write.ensures.bytes c.in_ok-write_line.ensures) end)
    (simp append_assoc))
