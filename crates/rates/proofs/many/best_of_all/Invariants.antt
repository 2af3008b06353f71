use Rattle.std.proofs.Common.{map, take}
use Rattle.rates.specs.Many.{BestOf}
use Rattle.rates.proofs.many.best_of_all.Given as goal

abbrev pub invariant-loop-rate : goal.invariant-loop-rate
invariant-loop-rate g l = BestOf g.R.Rate.kind (map g.R.Rate.means (take l.rate-index l.rates)) (g.R.Rate.means l.best)
