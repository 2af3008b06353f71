use Rattle.unfolding.proofs.Turns.{few_parts}
use Rattle.unfolding.proofs.few_parts.Goals as goal

pub returns : goal.returns
returns g c = few_parts g.R.Rate.kind g.met.R.Rate.laws
