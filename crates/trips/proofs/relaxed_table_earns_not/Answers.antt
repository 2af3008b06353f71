use Rattle.trips.proofs.Shown.{relaxed_table_earns_not}
use Rattle.trips.proofs.relaxed_table_earns_not.Goals as goal

pub returns : goal.returns
returns g c = relaxed_table_earns_not g.R.Rate.kind g.met.R.Rate.laws
