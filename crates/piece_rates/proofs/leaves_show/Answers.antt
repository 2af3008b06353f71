use Rattle.piece_rates.proofs.Leaves.{leaf_shows}
use Rattle.piece_rates.proofs.leaves_show.Goals as goal

pub returns : goal.returns
returns g c = leaf_shows g.R.Rate.kind g.met.R.Rate.laws
