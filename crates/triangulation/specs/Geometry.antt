-- What the preorder of a triangulated ring says by places alone, and how a side parts the triangles.
-- Assumes nothing.
use Rattle.std.specs.Prelude.{◌≡◌, ℕ, ◌+◌, ◌-◌, ◌*◌, ◌<◌, ◌≤◌, ◌⊎◌, length, slice_index_or}
use Rattle.trips.specs.Links.{Terminal, Ends}
use Rattle.triangulation.specs.Trees.{Tree, node, Spans, RingTree, StandsIn, side_count, preorder, side, Before}

-- The ends of the sides by place, with no tree: low i and high i are the ends of the side at place i.
-- The children of a side of two units or more stand at i + 1 and at i + 2 (c - low i), where c, the high end of the left
-- child, is the third terminal; the side's subtree is the 2 (high i - low i) - 1 places from i on.
pub record Places (n : ℕ) (low high : ℕ → Terminal) : Type 0 where
  pub root_low : low 0 ≡ 0
  pub root_high : high 0 + 1 ≡ n
  pub rising : (i : ℕ) → i < side_count n → low i < high i
  pub inside : (i : ℕ) → i < side_count n → i + 2 * (high i - low i) ≤ side_count n + 1
  pub left_low : (i : ℕ) → i < side_count n → low i + 2 ≤ high i → low (i + 1) ≡ low i
  pub left_rising : (i : ℕ) → i < side_count n → low i + 2 ≤ high i → low i < high (i + 1)
  pub left_high : (i : ℕ) → i < side_count n → low i + 2 ≤ high i → high (i + 1) < high i
  pub right_low : (i : ℕ) → i < side_count n → low i + 2 ≤ high i → low (i + 2 * (high (i + 1) - low (i + 1))) ≡ high (i + 1)
  pub right_high : (i : ℕ) → i < side_count n → low i + 2 ≤ high i → high (i + 2 * (high (i + 1) - low (i + 1))) ≡ high i

-- The same for lengths alone: a length of two or more is the sum of the two children's.
pub record Lengths (n : ℕ) (len : ℕ → ℕ) : Type 0 where
  pub root : len 0 + 1 ≡ n
  pub positive : (i : ℕ) → i < side_count n → 1 ≤ len i
  pub within : (i : ℕ) → i < side_count n → i + 2 * len i ≤ side_count n + 1
  pub sum : (i : ℕ) → i < side_count n → 2 ≤ len i → len (i + 1) + len (i + 2 * len (i + 1)) ≡ len i

-- Each place has one subtree standing at it.
abbrev pub OneSubtreeAtAPlace : Type 0
OneSubtreeAtAPlace =
    (n : ℕ) (t : Tree) → 2 ≤ n → RingTree n t → (j : ℕ) → j < side_count n
    → (u : Tree) × (x : Terminal) × (y : Terminal) × StandsIn n t u x y j
    × ((v : Tree) (a b : Terminal) → StandsIn n t v a b j → (v ≡ u) × (a ≡ x) × (b ≡ y))

-- The side at a place is the base of the subtree that stands there.
abbrev pub SidesByPlace : Type 0
SidesByPlace =
    (n : ℕ) (t : Tree) → 2 ≤ n → RingTree n t → (length (preorder t 0 (n - 1)) ≡ side_count n)
    × ((u : Tree) (x y : Terminal) (j : ℕ) (d : Ends) → StandsIn n t u x y j → (j < side_count n) × Spans u x y × (slice_index_or (preorder t 0 (n - 1)) j d ≡ side x y))

-- Lengths are differences of ends.
abbrev pub LengthsFromPlaces : Type 0
LengthsFromPlaces = (n : ℕ) (low high : ℕ → Terminal) → Places n low high → Lengths n (λ i. high i - low i)

-- A place that comes earlier has a lower low end, or the same and a higher high end.
abbrev pub PreorderIsSorted : Type 0
PreorderIsSorted =
    (n : ℕ) (t : Tree) → RingTree n t → (u v : Tree) (a b x y : Terminal) (i j : ℕ)
    → StandsIn n t u a b i → StandsIn n t v x y j → i < j → Before a b x y

-- The terminal z does not lie strictly between a and b.
abbrev pub Outside : Terminal → Terminal → Terminal → Type 0
Outside a b z = (z ≤ a) ⊎ (b ≤ z)

-- No terminal of the triangle x, c, y lies strictly between a and b.
abbrev pub NoneBetween : Terminal → Terminal → Terminal → Terminal → Terminal → Type 0
NoneBetween a b x c y = Outside a b x × Outside a b c × Outside a b y

-- The triangle x, c, y, whose base stands at j, against the side {a, b}, which stands at i. Either it stands in the side's
-- subtree and has its terminals from a to b, or it stands outside and has no terminal strictly between a and b.
abbrev pub Parted : Terminal → Terminal → ℕ → Terminal → Terminal → Terminal → ℕ → Type 0
Parted a b i x c y j =
    ((i ≤ j) × (j + 1 < i + 2 * (b - a)) × (a ≤ x) × (x < c) × (c < y) × (y ≤ b))
    ⊎ (((j < i) ⊎ (i + 2 * (b - a) ≤ j + 1)) × NoneBetween a b x c y)

-- Every side parts the triangles so.
abbrev pub SidesPartTheRing : Type 0
SidesPartTheRing =
    (n : ℕ) (t : Tree) → RingTree n t → (u l r : Tree) (a b x c y : Terminal) (i j : ℕ)
    → StandsIn n t u a b i → StandsIn n t (node c l r) x y j → Parted a b i x c y j

-- All of this by places alone, for the ends low and high of the sides in preorder. The third terminal of the side at j is the
-- high end of its left child.
pub record ByPlace (n : ℕ) (low high : ℕ → Terminal) : Type 0 where
  pub places : Places n low high
  pub lengths : Lengths n (λ i. high i - low i)
  pub sorted : (i j : ℕ) → i < j → j < side_count n → Before (low i) (high i) (low j) (high j)
  pub parted : (i j : ℕ) → i < side_count n → j < side_count n → low j + 2 ≤ high j → Parted (low i) (high i) i (low j) (high (j + 1)) (high j) j

-- It holds of any two functions that agree with a triangulation's preorder.
abbrev pub ReadByPlace : Type 0
ReadByPlace =
    (n : ℕ) (t : Tree) (low high : ℕ → Terminal) → 2 ≤ n → RingTree n t
    → ((u : Tree) (x y : Terminal) (j : ℕ) → StandsIn n t u x y j → (low j ≡ x) × (high j ≡ y)) → ByPlace n low high
