use Rattle.std.proofs.Common.{leb, ap}
use Rattle.rates.specs.Loads.Load.{up_to}
use Rattle.rates.specs.Such.{such_same}
use Rattle.rates.proofs.tonnes.TonnesRate.none.Goals as goal

pub returns : goal.returns
returns c = ap up_to (such_same (λ n. leb n 1000000000) _ _ c.zero.ensures)
