use Rattle.unfolding.proofs.Splits.{split_keeps_the_rate}
use Rattle.unfolding.proofs.split_keeps_the_rate.Goals as goal

pub returns : goal.returns
returns g c = split_keeps_the_rate g.R.Rate.kind g.met.R.Rate.laws
