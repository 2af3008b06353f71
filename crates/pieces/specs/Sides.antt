-- The sides of a filled ring in preorder, by their ends: which sides lie below which, and which bound a triangle.
-- Assumes nothing: the ends are any two functions of a side's index, and `Filled` says when they are those of a filled ring.
--
-- A ring of n terminals, numbered clockwise from 0, that is filled to triangles is a binary tree. Its root is the side {0, n-1};
-- a side {a, b} with b - a at least 2 is the base of one triangle, whose third terminal c lies between, and has the children
-- {a, c} and {c, b}. In preorder the left child stands one place on, and the right child behind the left one's 2(c - a) - 1 sides.
use Rattle.std.specs.Prelude.{◌≡◌, ℕ, ◌+◌, ◌-◌, ◌*◌, ◌<◌, ◌≤◌, Bool, false, ◌&&◌, ◌⊎◌, List, nat_le, nat_lt, slice_index_or}
use Rattle.ring.specs.declared.Side.{Side}

-- the two ends of the side at each index
pub record Ends : Type 0 where
  pub low : ℕ → ℕ
  pub high : ℕ → ℕ

-- past the last record both ends count as 0
abbrev pub no_side : Side
no_side = record { low = 0; high = 0; link = false; leaf = 0 }

-- the ends that side records show
abbrev pub ends_of : List Side → Ends
ends_of ss = record { low = λ i. (slice_index_or ss i no_side).low; high = λ i. (slice_index_or ss i no_side).high }

abbrev pub span : Ends → ℕ → ℕ
span e i = e.high i - e.low i

-- the lengths that side records show
abbrev pub lengths : List Side → ℕ → ℕ
lengths ss = span (ends_of ss)

-- where the right child of the side i stands
abbrev pub right_of : (ℕ → ℕ) → ℕ → ℕ
right_of len i = i + 2 * len (i + 1)

-- the two children of a base, by the terminal between: {a, b} has the children {a, c} and {c, b}
pub record Halved (e : Ends) (i : ℕ) : Type 0 where
  pub low_same : e.low (i + 1) ≡ e.low i
  pub above_low : e.low i < e.high (i + 1)
  pub below_high : e.high (i + 1) < e.high i
  pub meet : e.low (right_of (span e) i) ≡ e.high (i + 1)
  pub high_same : e.high (right_of (span e) i) ≡ e.high i

-- the first 2n - 3 sides are a filled ring of n terminals in preorder
pub record Filled (n : ℕ) (e : Ends) : Type 0 where
  pub least : 3 ≤ n
  pub most : n ≤ 4096
  pub first : e.low 0 ≡ 0
  pub last : e.high 0 + 1 ≡ n
  pub rising : (i : ℕ) → i + 3 < 2 * n → e.low i < e.high i
  pub halved : (i : ℕ) → i + 3 < 2 * n → 2 ≤ span e i → Halved e i

-- the same, of the lengths alone
pub record Preorder (n : ℕ) (len : ℕ → ℕ) : Type 0 where
  pub least : 3 ≤ n
  pub most : n ≤ 4096
  pub root : len 0 + 1 ≡ n
  pub rises : (i : ℕ) → i + 3 < 2 * n → 1 ≤ len i
  pub splits : (i : ℕ) → i + 3 < 2 * n → 2 ≤ len i → (1 ≤ len (i + 1)) × (1 ≤ len (right_of len i)) × (len i ≡ len (i + 1) + len (right_of len i))

-- the side j is the side i or lies below it
abbrev pub Inside : (ℕ → ℕ) → ℕ → ℕ → Type 0
Inside len i j = (i ≤ j) × (j + 1 < i + 2 * len i)

abbrev pub within : (ℕ → ℕ) → ℕ → ℕ → Bool
within len i j = nat_le i j && nat_lt (j + 1) (i + 2 * len i)

-- the side i is a child of the side b: the triangle on b has i as one of its other two sides
pub record Child (len : ℕ → ℕ) (b i : ℕ) : Type 0 where
  pub base : 2 ≤ len b
  pub which : (i ≡ b + 1) ⊎ (i ≡ right_of len b)

-- the side i is a side of the triangle with the base b
abbrev pub SideOf : (ℕ → ℕ) → ℕ → ℕ → Type 0
SideOf len b i = (i ≡ b) ⊎ Child len b i

-- the triangle that a side's lanes belong to: the one on it as base, and for a side of length 1 the one above it
abbrev pub Belongs : (ℕ → ℕ) → ℕ → ℕ → Type 0
Belongs len i b = ((2 ≤ len i) × (b ≡ i)) ⊎ ((len i ≡ 1) × Child len b i)
