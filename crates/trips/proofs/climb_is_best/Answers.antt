use Rattle.trips.proofs.Shown.{climb_is_best}
use Rattle.trips.proofs.climb_is_best.Goals as goal

pub returns : goal.returns
returns g c = climb_is_best g.R.Rate.kind g.met.R.Rate.laws
