-- The ends of the seam of a cut piece, and how two terminals lie beside it.
-- Assumes the terms of `unfolding`, where a child and an end are a Bool each: true for the first child and for the low end.
use Rattle.std.specs.Prelude.{◌≡◌, ℕ, Bool, true, false}
use Rattle.unfolding.specs.Parts.{together, home}
use Rattle.quoting.specs.Seams.{is_first}
use Rattle.routing.specs.declared.seam.End.{End}
use Rattle.routing.specs.declared.seam.End.TheVariants.{Low, High}
use Rattle.routing.specs.declared.seam.Lie.{Lie}
use Rattle.routing.specs.declared.seam.Lie.TheVariants.{Together, Apart}

abbrev pub is_low : End → Bool
is_low Low = true
is_low High = false

-- beside a seam from x to y the terminals u and v lie like this
abbrev pub LiesAs : ℕ → ℕ → ℕ → ℕ → Lie → Type 0
LiesAs x y u v (Together c) = (together x y u v ≡ true) × (home x y u v ≡ is_first c)
LiesAs x y u v (Apart c) = (together x y u v ≡ false) × (home x y u v ≡ is_first c)
