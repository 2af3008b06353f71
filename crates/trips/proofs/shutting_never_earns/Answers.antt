use Rattle.trips.proofs.Shown.{shutting_never_earns}
use Rattle.trips.proofs.shutting_never_earns.Goals as goal

pub returns : goal.returns
returns g c = shutting_never_earns g.R.Rate.kind g.met.R.Rate.laws
