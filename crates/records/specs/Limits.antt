-- The row of limits: how many triangles a piece may have at each second level.
-- Assumes nothing.
use Rattle.std.specs.Prelude.{◌≡◌, ℕ, ◌+◌, ◌*◌, ◌/◌, ◌<◌, ◌≤◌, List, [], ◌∷◌, slice_index}

-- number k bounds the triangles of a piece at level 2k; there are none past the last
abbrev pub limits : List ℕ
limits = 4094 ∷ 2729 ∷ 1819 ∷ 1213 ∷ 809 ∷ 539 ∷ 359 ∷ 239 ∷ 159 ∷ 106 ∷ 71 ∷ 47 ∷ 31 ∷ 21 ∷ 14 ∷ 9 ∷ 6 ∷ 4 ∷ 3 ∷ 2 ∷ 1 ∷ []

unfoldable pub limit : ℕ → ℕ
limit k = slice_index limits k

-- the most triangles that a cut of t triangles leaves to a part
abbrev pub share : ℕ → ℕ
share t = (2 * t + 1) / 3

-- each number after the first is what a cut of the one before leaves, and the last is 1
pub record RowOfLimits : Type 0 where
  pub first : limit 0 ≡ 4094
  pub step : (k : ℕ) → k < 20 → limit (k + 1) ≡ share (limit k)
  pub last : limit 20 ≡ 1
  pub past : (k : ℕ) → 20 < k → limit k ≡ 0
  pub several : (k : ℕ) → 2 ≤ limit k → k < 20
