use Rattle.trips.proofs.Shown.{best_rate_bounded}
use Rattle.trips.proofs.best_rate_is_bounded.Goals as goal

pub returns : goal.returns
returns g c = best_rate_bounded g.R.Rate.kind g.met.R.Rate.laws
