-- A row whose every place was written by the same step.
-- Assumes nothing; the kind of rate is any.
use Rattle.std.proofs.Common.{◌≡◌, ℕ, zero, suc, List, [], ◌∷◌, map, refl}
use Rattle.std.specs.List.{FoldsTo}
use Rattle.rates.specs.Kinds.{Kind}
use Rattle.slow.specs.Areas.{at}

module _ {M : Type 0} (K : Kind M) {V F : Type 0} (means : V → M) (step : F → V → F → Type 0) where
  -- a row that steps fill that each give none
  pub filled_with_none : ((f : F) (x : V) (g : F) → step f x g → means x ≡ K.none) → (row : List V) (f last : F) → FoldsTo step f row last → (w : ℕ) → at K (map means row) w ≡ K.none
  filled_with_none gives [] f last steps w = refl
  filled_with_none gives (x ∷ row) f last steps zero = gives f x steps.0 steps.1
  filled_with_none gives (x ∷ row) f last steps (suc w) = filled_with_none gives row steps.0 last steps.2 w
