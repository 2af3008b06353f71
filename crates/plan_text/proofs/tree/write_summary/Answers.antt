use Rattle.std.proofs.Common.{ap, subst, refl, vec_len}
use Rattle.plan_text.specs.Laid.{Deepest, MostHolders}
use Rattle.plan_text.specs.Trees.{summary_text}
use Rattle.plan_text.proofs.Texts.{GrownBy-same, on_ok}
use Rattle.plan_text.proofs.tree.write_summary.Goals as goal

pub returns : goal.returns
returns c =
    let level = c.deepest.result in
    let holders = c.most_holders-holders.result in
    let text = summary_text (vec_len c.args.laid.now.pieces) level holders in
    on_ok c.write_counts.result c.write_counts.ensures (λ grown. (
      text,
      (
        record {
          level = level;
          holders = holders;
          deepest = subst (λ ps. Deepest ps level) c.deref-3.ensures.value c.deepest.ensures;
          most = subst (λ ss. MostHolders ss c.args.laid.now.pieces.items holders) c.deref.ensures.value
              (subst (λ ps. MostHolders c.deref.result.now ps holders) c.deref-2.ensures.value c.most_holders-holders.ensures.greatest);
          text = refl;
        },
        GrownBy-same c.args.text.now c.write_counts.new.text _ text grown (ap (λ n. summary_text n level holders) c.len.ensures),
      ),
    ))
