use Rattle.trips.proofs.Shown.{simple_trip_is_best}
use Rattle.trips.proofs.simple_trip_is_best.Goals as goal

pub returns : goal.returns
returns g c = simple_trip_is_best g.R.Rate.kind g.met.R.Rate.laws
