use Rattle.std.proofs.Common.{◌≡◌, ◌<◌, length, get_or}
use Rattle.rates.proofs.Choosing.{FirstSoFar}
use Rattle.rates.proofs.many.best_place.Given as goal

abbrev pub invariant-loop-i : goal.invariant-loop-i
invariant-loop-i g l =
    (l.place < length l.rates)
    × (l.best ≡ get_or l.rates l.place l.best)
    × FirstSoFar g.R.Rate.kind g.R.Rate.means l.rates l.i l.place
