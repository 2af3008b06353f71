use Rattle.unfolding.proofs.Turns.{turn_by_turn}
use Rattle.unfolding.proofs.turn_by_turn.Goals as goal

pub returns : goal.returns
returns g c = turn_by_turn g.R.Rate.kind
