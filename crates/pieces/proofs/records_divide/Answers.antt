use Rattle.pieces.proofs.Standing.{divided}
use Rattle.pieces.proofs.records_divide.Goals as goal

pub returns : goal.returns
returns c n e ps ds fl rec at = divided n e fl ps rec at
