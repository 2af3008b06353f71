use Rattle.unfolding.proofs.Turns.{parts_unfold}
use Rattle.unfolding.proofs.parts_unfold.Goals as goal

pub returns : goal.returns
returns g c = parts_unfold g.R.Rate.kind g.met.R.Rate.laws
