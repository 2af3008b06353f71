use Rattle.trips.proofs.Shown.{earning_tested}
use Rattle.trips.proofs.earning_is_tested_by_the_way_back.Goals as goal

pub returns : goal.returns
returns g c = earning_tested g.R.Rate.kind g.met.R.Rate.laws
