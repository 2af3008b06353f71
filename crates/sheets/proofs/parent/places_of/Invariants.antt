use Rattle.std.proofs.Common.{◌≡◌, ℕ, ◌<◌, length, get_or}
use Rattle.records.specs.Few.{listed}
use Rattle.piece_rates.specs.Climbing.{place}
use Rattle.sheets.proofs.parent.places_of.Given as goal

abbrev pub invariant-loop-k : goal.invariant-loop-k
invariant-loop-k l = (length l.at ≡ 8) × ((k : ℕ) → k < l.k → (d : ℕ) → get_or l.at k d ≡ place (listed l.edges) (get_or (listed l.fn.terminals) k 0))
