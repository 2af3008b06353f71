-- Triangulations of a convex polygon as binary trees: third terminals, the sides in preorder, where a subtree stands.
-- Assumes nothing.
use Rattle.std.specs.Prelude.{◌≡◌, ℕ, ◌+◌, ◌-◌, ◌*◌, ◌<◌, ◌⊎◌, List, [], ◌∷◌, ◌++◌}
use Rattle.trips.specs.Links.{Terminal, Ends}

-- Take the terminals from a to b, a < b, as the vertices of a convex polygon; the side {a, b} is its base. A polygon of two
-- vertices is the unit side {a, a + 1} alone. In any other the base belongs to one triangle, whose third terminal c lies
-- between a and b; the triangle parts the rest into the polygon from a to c and the polygon from c to b.
-- So a triangulation is a binary tree. It holds the third terminals; the ends of the base are arguments.
pub data Tree : Type 0 where
  leaf : Tree
  node : Terminal → Tree → Tree → Tree

-- The tree triangulates the polygon of the terminals from a to b. (It follows that a < b, and a < c < b at a node.)
abbrev pub Spans : Tree → Terminal → Terminal → Type 0
Spans leaf a b = b ≡ a + 1
Spans (node c l r) a b = Spans l a c × Spans r c b

abbrev pub side : Terminal → Terminal → Ends
side a b = record { from = a; to = b }

-- The sides of the triangulation in preorder: the base, then the sides on the left, then those on the right.
abbrev pub preorder : Tree → Terminal → Terminal → List Ends
preorder leaf a b = side a b ∷ []
preorder (node c l r) a b = side a b ∷ (preorder l a c ++ preorder r c b)

-- Counted from i at the tree t over {a, b}, the subtree u over {x, y} stands at place j of the preorder.
-- The left subtree stands one place on, and the right one past the left one's 2 (c - a) - 1 sides.
pub data Stands (u : Tree) (x y : Terminal) (j : ℕ) : Tree → Terminal → Terminal → ℕ → Type 0 where
  here : {t : Tree} {a b : Terminal} {i : ℕ} → u ≡ t → x ≡ a → y ≡ b → j ≡ i → Stands u x y j t a b i
  left : {c : Terminal} {l r : Tree} {a b : Terminal} {i : ℕ} → Stands u x y j l a c (i + 1) → Stands u x y j (node c l r) a b i
  right : {c : Terminal} {l r : Tree} {a b : Terminal} {i : ℕ} → Stands u x y j r c b (i + 2 * (c - a)) → Stands u x y j (node c l r) a b i

-- A ring of n terminals: its triangulations are those of the polygon from 0 to n - 1, and have 2 n - 3 sides.
abbrev pub RingTree : ℕ → Tree → Type 0
RingTree n t = Spans t 0 (n - 1)

abbrev pub side_count : ℕ → ℕ
side_count n = 2 * n - 3

-- The subtree u over {x, y} stands at place j of the ring's preorder.
abbrev pub StandsIn : ℕ → Tree → Tree → Terminal → Terminal → ℕ → Type 0
StandsIn n t u x y j = Stands u x y j t 0 (n - 1) 0

-- Preorder is the order by the low end rising, then by the high end falling.
abbrev pub Before : Terminal → Terminal → Terminal → Terminal → Type 0
Before a b x y = (a < x) ⊎ ((a ≡ x) × (y < b))
