use Rattle.std.proofs.Common.{append_assoc}
use Rattle.plan_text.specs.Pictures.{sized_head_text}
use Rattle.plan_text.proofs.Texts.{GrownBy-same, on_ok}
use Rattle.plan_text.proofs.picture.write_head.Goals as goal

pub returns : goal.returns
unfolding sized_head_text
returns c =
    on_ok c.writeln.result c.writeln.ensures.bytes (λ grown.
    GrownBy-same c.args.text.now c.writeln.new.self _ (sized_head_text c.args.size) grown (simp append_assoc))
