use Rattle.trips.proofs.Shown.{fewer_lanes_no_better}
use Rattle.trips.proofs.fewer_lanes_are_no_better.Goals as goal

pub returns : goal.returns
returns g c = fewer_lanes_no_better g.R.Rate.kind g.met.R.Rate.laws
