use Rattle.std.proofs.Common.{ℕ, ◌<◌, get_or}
use Rattle.ring.specs.Faults.{Short}
use Rattle.ring.proofs.checks.check_areas.Given as goal

abbrev pub invariant-loop-area : goal.invariant-loop-area
invariant-loop-area l = (k : ℕ) → k < l.area-index → Short (get_or l.areas k (record { needed = 0; given = 0 })) → ⊥
