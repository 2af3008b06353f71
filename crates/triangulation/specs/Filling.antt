-- The fill of a ring: which triangulation is chosen for given links, and that the links decide it.
-- Assumes nothing.
use Rattle.std.specs.Prelude.{◌≡◌, ℕ, ◌+◌, ◌-◌, ◌<◌, ◌≤◌, Bool, true, ◌⊎◌, ◌≢◌}
use Rattle.trips.specs.Links.{Terminal}
use Rattle.triangulation.specs.Trees.{Tree, leaf, node, StandsIn, RingTree}

-- Which pairs of terminals are links: J a b is true if {a, b} is one.
abbrev pub Joins : Type 0
Joins = Terminal → Terminal → Bool

-- The third terminal of the side {a, b}: the largest c below b for which {a, c} is a link, else a + 1.
pub record Third (J : Joins) (a b c : Terminal) : Type 0 where
  pub above : a < c
  pub below : c < b
  pub drawn : (c ≡ a + 1) ⊎ (J a c ≡ true)
  pub largest : (d : Terminal) → c < d → d < b → J a d ≢ true

-- Every third terminal of the tree is chosen so.
abbrev pub Filled : Joins → Tree → Terminal → Terminal → Type 0
Filled J leaf a b = b ≡ a + 1
Filled J (node c l r) a b = Third J a b c × Filled J l a c × Filled J r c b

-- No link straddles another.
abbrev pub Uncrossed : Joins → Type 0
Uncrossed J = (a b c d : Terminal) → J a b ≡ true → J c d ≡ true → a < c → c < b → b < d → ⊥

-- A ring has a fill, whatever the links.
abbrev pub SomeFill : Type 0
SomeFill = (J : Joins) (n : ℕ) → 2 ≤ n → (t : Tree) × Filled J t 0 (n - 1)

-- The links decide it: a ring has at most one.
abbrev pub OneFill : Type 0
OneFill = (J : Joins) (n : ℕ) (t u : Tree) → Filled J t 0 (n - 1) → Filled J u 0 (n - 1) → t ≡ u

-- A fill triangulates the ring.
abbrev pub FillTriangulates : Type 0
FillTriangulates = (J : Joins) (n : ℕ) (t : Tree) → Filled J t 0 (n - 1) → RingTree n t

-- If no two links cross, every link of the ring is a side of its fill.
abbrev pub LinksAreSides : Type 0
LinksAreSides =
    (J : Joins) (n : ℕ) (t : Tree) → Filled J t 0 (n - 1) → Uncrossed J → (x y : Terminal) → J x y ≡ true → x < y → y < n
    → (u : Tree) × (j : ℕ) × StandsIn n t u x y j
