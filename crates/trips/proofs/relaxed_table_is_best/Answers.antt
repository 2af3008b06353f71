use Rattle.trips.proofs.Shown.{relaxed_table_is_best}
use Rattle.trips.proofs.relaxed_table_is_best.Goals as goal

pub returns : goal.returns
returns g c = relaxed_table_is_best g.R.Rate.kind g.met.R.Rate.laws
