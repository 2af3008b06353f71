-- Triangulations of well-known shapes: where the third terminals lie, and a list of links as the sides in preorder.
-- Assumes nothing.
use Rattle.std.specs.Prelude.{◌≡◌, ◌≢◌, ℕ, ◌+◌, ◌-◌, ◌*◌, ◌/◌, ◌%◌, ◌^◌, ◌<◌, List, map, length, take, ◌==◌, codes, Ok, Err, Result, if◌then◌else◌}
use Rattle.trips.specs.Links.{Terminal}
use Rattle.triangulation.specs.Trees.{Tree, leaf, node, Spans, preorder}
use Rattle.ring.specs.declared.Link.{Link}
use Rattle.ring.specs.Linked.{ends_of}
use Rattle.shapes.specs.declared.Shape.{Shape}
use Rattle.shapes.specs.declared.Shape.TheVariants.{Fan, Zigzag, Balanced, Scattered, Bare}
use Rattle.shapes.specs.declared.UnknownShape.{UnknownShape}

-- The word for a shape.
abbrev pub name_of : Shape → List ℕ
name_of Fan = codes "fan"
name_of Zigzag = codes "zigzag"
name_of Balanced = codes "balanced"
name_of Scattered = codes "scattered"
name_of Bare = codes "none"

-- The shape that the word names, or that it names none.
abbrev pub NamedBy : List ℕ → Result Shape UnknownShape → Type 0
NamedBy word (Ok shape) = word ≡ name_of shape
NamedBy word (Err _) = (shape : Shape) → word ≢ name_of shape

-- Where the third terminal c of the triangle on the side {a, b} lies.
abbrev pub ThirdBy : Shape → Terminal → Terminal → Terminal → Type 0
ThirdBy Fan a c b = c + 1 ≡ b
ThirdBy Zigzag a c b = (a % 2 ≡ b % 2 → c ≡ a + 1) × (a % 2 ≢ b % 2 → c + 1 ≡ b)
ThirdBy Balanced a c b = c ≡ a + (b - a) / 2
ThirdBy Scattered a c b = (a < c) × (c < b)
ThirdBy Bare a c b = c ≡ a + 1

-- Every triangle of the tree over {a, b} lies so.
abbrev pub Shaped : Shape → Tree → Terminal → Terminal → Type 0
Shaped shape leaf a b = Unit {0}
Shaped shape (node c l r) a b = ThirdBy shape a c b × Shaped shape l a c × Shaped shape r c b

-- The links are the sides, in preorder, of a triangulation of the ring from 0 to last whose triangles lie as the shape says.
-- There are 2 last - 1 of them; a shorter list has the first of them, a longer one begins with them all.
pub record Drawn (shape : Shape) (last : Terminal) (links : List Link) : Type 0 where
  pub tree : Tree
  pub spans : Spans tree 0 last
  pub shaped : Shaped shape tree 0 last
  pub sides : map ends_of (take (2 * last - 1) links) ≡ take (length links) (preorder tree 0 last)

-- The link from a to b.
abbrev pub link_between : Terminal → Terminal → Link
link_between a b = record { from = a; to = b }

-- A number below 65536 that looks random, for a scattered third terminal.
abbrev pub mixed_of : Terminal → Terminal → ℕ
mixed_of a b = ((a * 65536 + b) * 6364136223846793005 + 1442695040888963407) % 2 ^ 64 / 2 ^ 40 % 65536

-- The third terminal that is chosen for the side {a, b}: it lies as ThirdBy says, and each side has one.
abbrev pub third_of : Shape → Terminal → Terminal → Terminal
third_of Fan a b = b - 1
third_of Zigzag a b = if a % 2 == b % 2 then a + 1 else b - 1
third_of Balanced a b = a + (b - a) / 2
third_of Scattered a b = a + 1 + mixed_of a b % (b - a - 1)
third_of Bare a b = a + 1
