use Rattle.tape.proofs.KindBytes.{numbered}
use Rattle.tape.proofs.laws.ten_kinds.Goals as goal

pub returns : goal.returns
returns c = numbered
