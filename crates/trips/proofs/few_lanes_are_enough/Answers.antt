use Rattle.trips.proofs.Shown.{few_lanes_enough}
use Rattle.trips.proofs.few_lanes_are_enough.Goals as goal

pub returns : goal.returns
returns g c = few_lanes_enough g.R.Rate.kind g.met.R.Rate.laws
