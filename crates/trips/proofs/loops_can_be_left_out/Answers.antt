use Rattle.trips.proofs.Shown.{loops_left_out}
use Rattle.trips.proofs.loops_can_be_left_out.Goals as goal

pub returns : goal.returns
returns g c = loops_left_out g.R.Rate.kind g.met.R.Rate.laws
