use Rattle.unfolding.proofs.LeafStops.{best_within_exists}
use Rattle.unfolding.proofs.best_within_exists.Goals as goal

pub returns : goal.returns
returns g c = best_within_exists g.R.Rate.kind g.met.R.Rate.laws
