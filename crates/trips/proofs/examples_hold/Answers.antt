use Rattle.trips.proofs.ExamplesShown.{examples_shown}
use Rattle.trips.proofs.examples_hold.Goals as goal

pub returns : goal.returns
returns c = examples_shown
