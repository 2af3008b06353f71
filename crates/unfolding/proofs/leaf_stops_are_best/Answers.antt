use Rattle.unfolding.proofs.LeafStops.{leaf_stops_are_best}
use Rattle.unfolding.proofs.leaf_stops_are_best.Goals as goal

pub returns : goal.returns
returns g c = leaf_stops_are_best g.R.Rate.kind g.met.R.Rate.laws
