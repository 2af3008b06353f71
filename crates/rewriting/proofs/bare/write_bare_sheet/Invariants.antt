use Rattle.std.proofs.Common.{◌≡◌, ℕ, ◌<◌, get_or}
use Rattle.piece_rates.specs.Bare.{bare_place}
use Rattle.rewriting.proofs.bare.write_bare_sheet.Given as goal

abbrev pub invariant-loop-k : goal.invariant-loop-k
invariant-loop-k g l =
    (k : ℕ) → k < l.k → (d : g.row.R.Denot) → g.R.Rate.means (get_or l.sheet k d) ≡ bare_place g.R.Rate.kind l.count k
