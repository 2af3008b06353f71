-- Best rates within one triangle: direct, or by the third corner.
-- Assumes nothing; the corners rise.
use Rattle.std.specs.Prelude.{◌≡◌, ℕ, cond, ◌||◌, ◌⊎◌, ◌==◌, ◌≢◌}
use Rattle.rates.specs.Kinds.{Kind}
use Rattle.rates.specs.Many.{better_of}
use Rattle.trips.specs.Trips.{LaneMap, Standing, NoEarning, BestRate}

-- u is one of the corners a, b, c
abbrev pub Corner : ℕ → ℕ → ℕ → ℕ → Type 0
Corner a b c u = (u ≡ a) ⊎ ((u ≡ b) ⊎ (u ≡ c))

-- the first corner that is neither u nor v
abbrev pub third_corner : ℕ → ℕ → ℕ → ℕ → ℕ → ℕ
third_corner a b c u v = cond (a == u || a == v) (cond (b == u || b == v) c b) a

module _ {M : Type 0} (K : Kind M) where
  -- all lanes run between two corners
  abbrev pub Triangular : ℕ → ℕ → ℕ → LaneMap M → Type 0
  Triangular a b c m = (u v : ℕ) → Standing K m u v → Corner a b c u × Corner a b c v × (u ≢ v)

  -- staying put, or the better of the direct lane and the way by the third corner
  abbrev pub triangle_entry : ℕ → ℕ → ℕ → LaneMap M → ℕ → ℕ → M
  triangle_entry a b c m u v =
      cond (u == v) K.still (better_of K (m u v) (K.join (m u (third_corner a b c u v)) (m (third_corner a b c u v) v)))

  abbrev pub TriangleEntriesAreBest : Type 0
  TriangleEntriesAreBest =
      (a b c : ℕ) (m : LaneMap M) → Triangular a b c m → NoEarning K m → (u v : ℕ) → BestRate K m u v (triangle_entry a b c m u v)
