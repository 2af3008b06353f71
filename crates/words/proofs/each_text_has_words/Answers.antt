use Rattle.words.proofs.Split.{words_exist}
use Rattle.words.proofs.each_text_has_words.Goals as goal

pub returns : goal.returns
returns c = words_exist
