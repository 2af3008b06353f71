use Rattle.std.proofs.Common.{◌≡◌, ℕ, ◌-◌, ◌<◌}
use Rattle.cutting.specs.Calls.{Computes}
use Rattle.pieces.specs.Cuts.{descend}
use Rattle.pieces.specs.Sides.{lengths}
use Rattle.cutting.proofs.seam.descend.Given as goal

-- what is left of the way down leads to the same side
abbrev pub invariant-loop : goal.invariant-loop
invariant-loop g l =
    (l.v < 65536)
    × ((w : ℕ → ℕ) → Computes (goal.F-post g l.weight) w
    → descend (lengths l.sides) w l.most (l.steps - l.counter) l.v ≡ descend (lengths l.sides) w l.most l.steps l.from)
