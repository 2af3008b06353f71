use Rattle.climbing.proofs.Steps.{steps_keep}
use Rattle.climbing.proofs.steps_keep.Goals as goal

pub returns : goal.returns
returns g c = steps_keep g.R.Rate.kind g.met.R.Rate.laws
