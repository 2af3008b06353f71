use Rattle.trips.proofs.Shown.{mirrored_climb_is_best}
use Rattle.trips.proofs.mirrored_climb_is_best.Goals as goal

pub returns : goal.returns
returns g c = mirrored_climb_is_best g.R.Rate.kind g.met.R.Rate.laws
