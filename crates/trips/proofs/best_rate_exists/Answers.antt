use Rattle.trips.proofs.Shown.{best_rate_exists}
use Rattle.trips.proofs.best_rate_exists.Goals as goal

pub returns : goal.returns
returns g c = best_rate_exists g.R.Rate.kind g.met.R.Rate.laws
