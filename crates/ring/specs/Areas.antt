-- The side area: its records as the preorder of a triangulated ring, the fill, and finding a side by its ends.
-- Assumes nothing.
use Rattle.std.specs.Prelude.{◌≡◌, ℕ, ◌+◌, ◌-◌, ◌<◌, ◌≤◌, false, List, map, length, take, drop, IfSome, Some, Decides, Option, slice_index_or}
use Rattle.trips.specs.Links.{Terminal, Ends, Named, SameLink}
use Rattle.triangulation.specs.Trees.{Tree, RingTree, side_count, preorder, side, Before}
use Rattle.triangulation.specs.Filling.{Filled}
use Rattle.triangulation.specs.Geometry.{ByPlace}
use Rattle.ring.specs.declared.Area.{Area}
use Rattle.ring.specs.declared.Link.{Link}
use Rattle.ring.specs.declared.Side.{Side}
use Rattle.ring.specs.Faults.{fewest, most}
use Rattle.ring.specs.Linked.{Linked, SameLinks, ends_at, joins}

-- The record at a place of the area.
abbrev pub side_at : List Side → ℕ → Side
side_at sides k = slice_index_or sides k (record { low = 0; high = 0; link = false; leaf = 0 })

abbrev pub side_ends : Side → Ends
side_ends s = side s.low s.high

-- By their ends the first 2 n - 3 records are the preorder of a triangulation of the ring. The other fields are free.
pub record Triangulated (n : ℕ) (sides : List Side) : Type 0 where
  pub tree : Tree
  pub spans : RingTree n tree
  pub ends : map side_ends (take (side_count n) sides) ≡ preorder tree 0 (n - 1)

-- The record that the fill gives to a side: a link if the plan has it, and no piece yet.
abbrev pub new_side : List Link → Ends → Side
new_side links e = record { low = e.from; high = e.to; link = joins links e.from e.to; leaf = 0 }

-- The first records are those of the triangulation that the links decide, in preorder, with the links of a list of their own
-- marked; the places past them are as they were.
pub record FilledWith (n : ℕ) (links marks : List Link) (before after : List Side) : Type 0 where
  pub tree : Tree
  pub filled : Filled (joins links) tree 0 (n - 1)
  pub records : take (side_count n) after ≡ map (new_side marks) (preorder tree 0 (n - 1))
  pub rest : drop (side_count n) after ≡ drop (side_count n) before

-- What the fill leaves: all links are marked.
abbrev pub Fills : ℕ → List Link → List Side → List Side → Type 0
Fills n links before after = FilledWith n links links before after

-- The place r splits the first records: the one before it comes before the side {low, high} in preorder, the one at it does not.
pub record Splits (sides : List Side) (count : ℕ) (low high : Terminal) (r : ℕ) : Type 0 where
  pub within : r ≤ count
  pub below : (k : ℕ) → k + 1 ≡ r → Before (side_at sides k).low (side_at sides k).high low high
  pub above : r < count → Before (side_at sides r).low (side_at sides r).high low high → ⊥

-- What a search for the side with the ends a and b answers. A place that is answered always holds such a side; and if the
-- area is the preorder of a triangulation, the place of the side is answered wherever there is one.
pub record Finds (n : ℕ) (sides : List Side) (a b : Terminal) (r : Option ℕ) : Type 0 where
  pub found : IfSome r (λ k. (k < side_count n) × (k < length sides) × Named (side_ends (side_at sides k)) a b)
  pub complete : fewest ≤ n → n ≤ most → Triangulated n sides → (k : ℕ) → k < side_count n → Named (side_ends (side_at sides k)) a b → r ≡ Some k

-- The side area after an accepted plan.
pub record Drawn (n : ℕ) (links : List Link) (before sides : List Side) : Type 0 where
  pub fills : Fills n links before sides
  pub triangulated : Triangulated n sides
  pub every_link : (i : ℕ) → i < length links → (k : ℕ) × (k < side_count n) × SameLink (side_ends (side_at sides k)) (ends_at links i)
  pub marked : (k : ℕ) → k < side_count n → Decides (side_at sides k).link (Linked links (side_at sides k).low (side_at sides k).high)
  pub unassigned : (k : ℕ) → k < side_count n → (side_at sides k).leaf ≡ 0

-- The records depend on the number of terminals and on which terminals are linked, and on nothing else.
abbrev pub EqualPlansFillAlike : Type 0
EqualPlansFillAlike =
    (n : ℕ) (links others : List Link) (before after before' after' : List Side)
    → SameLinks links others → Fills n links before after → Fills n others before' after' → take (side_count n) after ≡ take (side_count n) after'

-- The ends of a triangulated area, by places alone.
abbrev pub AreaByPlace : Type 0
AreaByPlace = (n : ℕ) (sides : List Side) → 2 ≤ n → Triangulated n sides → ByPlace n (λ k. (side_at sides k).low) (λ k. (side_at sides k).high)

-- The side area that a ring of n terminals needs, and the length that is given.
abbrev pub side_area : ℕ → ℕ → Area
side_area n given = record { needed = side_count n; given = given }
