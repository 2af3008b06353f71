-- The children of a cut piece, and the terminals that each has.
-- Assumes the terms of `Ways`; a child is a Bool too, true for the first.
use Rattle.std.specs.Prelude.{ℕ, Bool, true, false, cond}
use Rattle.climbing.specs.Ways.{between, outside}
use Rattle.quoting.specs.declared.seams.Child.{Child}
use Rattle.quoting.specs.declared.seams.Child.TheVariants.{First, Second}

abbrev pub is_first : Child → Bool
is_first First = true
is_first Second = false

-- beside a seam from x to y a child has the terminal u: the first from end to end, the second those not strictly between
abbrev pub lies_in : ℕ → ℕ → Bool → ℕ → Bool
lies_in x y c u = cond c (between x y u) (outside x y u)
