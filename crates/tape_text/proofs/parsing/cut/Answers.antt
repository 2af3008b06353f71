use Rattle.std.proofs.Common.{refl}
use Rattle.std.proofs.lemmas.Str.Pattern.{split_parts}
use Rattle.tape_text.proofs.Cuts.{cut_or}
use Rattle.tape_text.proofs.parsing.cut.Goals as goal

pub returns : goal.returns
returns c = λ small.
    cut_or c.args.at c.args.text.now c.split_once.result _ c.unwrap_or.result c.unwrap_or.ensures refl refl
    (split_parts c.args.at c.args.text.now c.split_once.result c.split_once.ensures.cases small)
