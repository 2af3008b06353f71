use Rattle.tape.proofs.OneMeaning.{meaning}
use Rattle.tape.proofs.laws.one_meaning.Goals as goal

pub returns : goal.returns
returns c = meaning
