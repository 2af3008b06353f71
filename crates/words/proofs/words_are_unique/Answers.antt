use Rattle.words.proofs.Same.{words_unique}
use Rattle.words.proofs.words_are_unique.Goals as goal

pub returns : goal.returns
returns c = λ text ws us. words_unique ws us text
