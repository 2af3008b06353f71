use Rattle.trips.proofs.Shown.{rows_and_columns_meet}
use Rattle.trips.proofs.rows_and_columns_meet.Goals as goal

pub returns : goal.returns
returns g c = rows_and_columns_meet g.R.Rate.kind g.met.R.Rate.laws
