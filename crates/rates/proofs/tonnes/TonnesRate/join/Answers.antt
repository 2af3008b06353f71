use Rattle.std.proofs.Common.{sym, ◌∙◌}
use Rattle.rates.specs.Meanings.{load_of}
use Rattle.rates.specs.LoadLaws.{lesser_by_more}
use Rattle.std.proofs.lemmas.Bool.{cond-false}
use Rattle.rates.proofs.tonnes.TonnesRate.join.Goals as goal

pub returns-else-better : goal.returns-else-better
returns-else-better c _ = sym (lesser_by_more (load_of c.args.self) (load_of c.args.other) ∙ cond-false _ _ _ (sym c.if-better.ensures))
