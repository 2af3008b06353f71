-- What a closure that is called with sides computes.
-- Assumes nothing.
use Rattle.std.specs.Prelude.{◌≡◌, ℕ, ◌^◌, ◌<◌}

-- every call with a side answers f of it; a side is a number of 16 bits
abbrev pub Computes : {R : Type 0} → (ℕ → R → Type 0) → (ℕ → R) → Type 0
Computes {R} calls f = (side : ℕ) (answer : R) → side < 2 ^ 16 → calls side answer → answer ≡ f side
