use Rattle.pieces.proofs.Holders.{way_up_complete}
use Rattle.pieces.proofs.way_up_complete.Goals as goal

pub returns : goal.returns
returns c = way_up_complete
