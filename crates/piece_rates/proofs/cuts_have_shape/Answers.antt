use Rattle.piece_rates.proofs.Cuts.{cuts_have_shape}
use Rattle.piece_rates.proofs.cuts_have_shape.Goals as goal

pub returns : goal.returns
returns c = cuts_have_shape
