use Rattle.std.proofs.Common.{◌≡◌, ℕ, Bool, take}
use Rattle.cutting.specs.Calls.{Computes}
use Rattle.pieces.specs.Cuts.{chosen}
use Rattle.cutting.proofs.parts.chosen.Given as goal

abbrev pub invariant-loop-hole : goal.invariant-loop-hole
invariant-loop-hole g l =
    (test : ℕ → Bool) → Computes (goal.F-post g l.stands) test → l.to ≡ chosen test l.initial.to (take l.hole-index l.hole-items)
