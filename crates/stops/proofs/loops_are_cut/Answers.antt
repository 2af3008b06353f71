use Rattle.stops.proofs.Passing.{loops_are_cut}
use Rattle.stops.proofs.loops_are_cut.Goals as goal

pub returns : goal.returns
returns g c = loops_are_cut g.R.Rate.kind g.met.R.Rate.laws
