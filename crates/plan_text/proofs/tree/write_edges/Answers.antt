use Rattle.std.proofs.Common.{◌<◌, length, sym, rules}
use Rattle.plan_text.specs.Trees.{edges_text}
use Rattle.plan_text.proofs.Texts.{GrownBy-append, GrownBy-same, on_ok}
use Rattle.plan_text.proofs.Trees.{edges_some}
use Rattle.plan_text.proofs.tree.write_edges.Goals as goal

pub returns : goal.returns
returns c =
    let xs = c.args.edges.now in
    let some : 0 < length xs = search rules in
    let before = c.args.text.now in
    let after = c.write_spaced.new.text in
    on_ok c.write_spaced.result c.write_spaced.ensures (λ grown.
    GrownBy-same before after _ (edges_text xs) (GrownBy-append before c.write.new.self after _ _ c.in_ok-write.ensures.bytes grown) (sym (edges_some xs some)))
