use Rattle.std.proofs.Common.{◌≡◌, ℕ, ◌+◌, ◌-◌, ◌<◌, ◌≤◌}
use Rattle.triangulation.specs.Trees.{Before}
use Rattle.ring.specs.Areas.{side_at}
use Rattle.ring.proofs.find.first_not_before.Given as goal

abbrev pub invariant-loop-start : goal.invariant-loop-start
invariant-loop-start l =
    (l.start ≤ l.end) × (l.end ≤ l.count)
    × ((k : ℕ) → k + 1 ≡ l.start → Before (side_at l.sides k).low (side_at l.sides k).high l.low l.high)
    × (l.end < l.count → Before (side_at l.sides l.end).low (side_at l.sides l.end).high l.low l.high → ⊥)

abbrev pub decreases-loop-start : goal.decreases-loop-start
decreases-loop-start l = l.end - l.start
