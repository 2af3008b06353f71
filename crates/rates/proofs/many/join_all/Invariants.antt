use Rattle.std.proofs.Common.{map, take}
use Rattle.rates.proofs.Choosing.{Joined}
use Rattle.rates.proofs.many.join_all.Given as goal

abbrev pub invariant-loop-rate : goal.invariant-loop-rate
invariant-loop-rate g l = Joined g.R.Rate.kind g.met.R.Rate.laws (map g.R.Rate.means (take l.rate-index l.rates)) (g.R.Rate.means l.all)
