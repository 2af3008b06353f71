use Rattle.std.proofs.Common.{append_assoc}
use Rattle.plan_text.specs.Trees.{divided_text}
use Rattle.plan_text.proofs.Texts.{GrownBy-append, GrownBy-same, on_ok}
use Rattle.plan_text.proofs.tree.write_cut.Goals as goal

pub returns : goal.returns
returns c =
    let before = c.args.text.now in
    let after = c.write_ends.new.text in
    let count = c.triangles-count.ensures in
    on_ok c.write_ends.result c.write_ends.ensures (λ end.
    GrownBy-same before after _ (divided_text c.args.sides.now c.args.piece)
    (GrownBy-append before c.write.new.self after _ _ c.in_ok-write.ensures.bytes end) (rw count (simp append_assoc)))
