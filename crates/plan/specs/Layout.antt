-- A plan laid out: the areas that it needs, and what an accepted plan leaves in the side and piece areas.
-- Assumes the terms of `ring`, `pieces` and `division`; n is the number of terminals.
use Rattle.std.specs.Prelude.{◌≡◌, ℕ, ◌-◌, ◌*◌, ◌<◌, List, [], ◌∷◌, map, length, take, drop, Ok, Err, Decides, Result}
use Rattle.trips.specs.Links.{SameLink}
use Rattle.triangulation.specs.Trees.{side_count}
use Rattle.ring.specs.declared.Area.{Area}
use Rattle.ring.specs.declared.Link.{Link}
use Rattle.ring.specs.declared.Side.{Side}
use Rattle.ring.specs.declared.PlanFault.{PlanFault}
use Rattle.ring.specs.Areas.{Fills, Triangulated, side_area, side_at, side_ends}
use Rattle.ring.specs.Linked.{Linked, SameLinks, ends_at}
use Rattle.records.specs.declared.Piece.{Piece}
use Rattle.pieces.specs.Marks.{bare}
use Rattle.pieces.specs.Sides.{Filled}
use Rattle.division.specs.Outcome.{Divided, Untouched, front_ends}

-- The number of pieces.
abbrev pub piece_count : ℕ → ℕ
piece_count n = 2 * n - 5

-- How many pieces may wait to be cut.
abbrev pub todo_count : ℕ
todo_count = 64

-- The three areas with the lengths that are given: sides, pieces, and pieces that wait to be cut.
abbrev pub lent : ℕ → ℕ → ℕ → ℕ → List Area
lent n sides pieces todo = side_area n sides ∷ (record { needed = piece_count n; given = pieces } ∷ (record { needed = todo_count; given = todo } ∷ []))

-- The side and piece areas after an accepted plan, and before it.
pub record Layout (n : ℕ) (links : List Link) (sides : List Side) (pieces : List Piece) (sides' : List Side) (pieces' : List Piece) : Type 0 where
  -- the sides are the triangulation that the links decide; their leaves are put aside here
  pub fills : Fills n links (map bare sides) (map bare sides')
  pub triangulated : Triangulated n sides'
  pub filled_ring : Filled n (front_ends n sides')
  -- every link is a side, and a side is marked as a link exactly if it was given
  pub every_link : (i : ℕ) → i < length links → (k : ℕ) × (k < side_count n) × SameLink (side_ends (side_at sides' k)) (ends_at links i)
  pub marked : (k : ℕ) → k < side_count n → Decides (side_at sides' k).link (Linked links (side_at sides' k).low (side_at sides' k).high)
  -- the pieces are a division of that ring, and every side names its leaf piece
  pub divided : Divided n (front_ends n sides') sides' pieces'
  -- no place past the needed lengths was written
  pub sides_past : drop (side_count n) sides' ≡ drop (side_count n) sides
  pub pieces_past : drop (piece_count n) pieces' ≡ drop (piece_count n) pieces

-- What a call leaves: a layout if the plan was accepted, else both areas as they were.
abbrev pub Leaves : ℕ → List Link → List Side → List Piece → Result Unit PlanFault → List Side → List Piece → Type 0
Leaves n links sides pieces (Ok _) sides' pieces' = Layout n links sides pieces sides' pieces'
Leaves n links sides pieces (Err _) sides' pieces' = Untouched sides pieces sides' pieces'

-- The records of two calls are the same, whole records with the leaves.
pub record SameRecords (n : ℕ) (sides : List Side) (pieces : List Piece) (others : List Side) (parts : List Piece) : Type 0 where
  pub same_sides : take (side_count n) sides ≡ take (side_count n) others
  pub same_pieces : take (piece_count n) pieces ≡ take (piece_count n) parts

-- They depend on the number of terminals and on which terminals are linked, and on nothing else.
abbrev pub EqualPlansDivideAlike : Type 0
EqualPlansDivideAlike =
    (n : ℕ) (links links₂ : List Link) (s s' t t' : List Side) (p p' q q' : List Piece)
    → SameLinks links links₂ → Layout n links s p s' p' → Layout n links₂ t q t' q' → SameRecords n s' p' t' q'
