use Rattle.trips.proofs.Shown.{best_rate_unique}
use Rattle.trips.proofs.best_rate_is_unique.Goals as goal

pub returns : goal.returns
returns g c = best_rate_unique g.R.Rate.kind g.met.R.Rate.laws
