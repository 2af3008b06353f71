use Rattle.pieces.proofs.Holders.{holders}
use Rattle.pieces.proofs.holders_on_way_up.Goals as goal

pub returns : goal.returns
returns c = holders
