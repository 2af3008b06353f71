use Rattle.trips.proofs.Shown.{stops_are_a_trip}
use Rattle.trips.proofs.stops_are_a_trip.Goals as goal

pub returns : goal.returns
returns g c = stops_are_a_trip g.R.Rate.kind g.met.R.Rate.laws
