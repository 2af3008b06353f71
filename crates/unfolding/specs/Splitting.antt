-- A part split keeps its rate: what its parts are.
-- Assumes the terms of `Parts`; n is the number of terminals, m the book's lanes, e the ends of the sides, ps the piece records.
use Rattle.std.specs.Prelude.{◌≡◌, ℕ, ◌+◌, ◌*◌, ◌<◌, ◌≤◌, Bool, List, [], ◌∷◌, map, length}
use Rattle.std.specs.List.{AllByRecursion}
use Rattle.rates.specs.Kinds.{Kind}
use Rattle.rates.specs.Many.{joined_all}
use Rattle.trips.specs.Trips.{LaneMap, BestRate}
use Rattle.trips.specs.Theorems.{Linked, rate_along, final}
use Rattle.ring.specs.declared.Side.{Side}
use Rattle.records.specs.declared.Piece.{Piece}
use Rattle.pieces.specs.Sides.{Ends, ends_of, span}
use Rattle.pieces.specs.Holding.{piece_at}
use Rattle.pieces.specs.Division.{Uncut, CutInTwo}
use Rattle.piece_rates.specs.Lanes.{piece_lanes}
use Rattle.piece_rates.specs.Changes.{InOrder}
use Rattle.piece_rates.specs.Touching.{Touches}
use Rattle.unfolding.specs.Parts.{Part, part_rate, child, split, leaf_stops}

-- the parts begin at u, each begins where the one before ended, and the last ends at v
abbrev pub Chain : ℕ → ℕ → List Part → Type 0
Chain u v [] = u ≡ v
Chain u v (q ∷ parts) = (q.from ≡ u) × Chain q.to v parts

-- the piece p has one triangle, or is cut into its two children
abbrev pub Leaf : ℕ → Ends → List Piece → ℕ → Type 0
Leaf n e ps p = Uncut n (span e) (piece_at ps p)

abbrev pub Cut : ℕ → Ends → List Piece → ℕ → Type 0
Cut n e ps p = CutInTwo n (span e) p (piece_at ps p) (piece_at ps (piece_at ps p).first) (piece_at ps (piece_at ps p).second)

module _ {M : Type 0} (K : Kind M) where
  -- best p u v is the best rate from u to v over the lanes of the piece p, for all terminals that touch it
  abbrev pub BestWithin : ℕ → LaneMap M → Ends → List Piece → (ℕ → ℕ → ℕ → M) → Type 0
  BestWithin n m e ps best =
      (p : ℕ) → p + 5 < 2 * n → (u v : ℕ) → Touches n e (piece_at ps p) u → Touches n e (piece_at ps p) v
      → BestRate K (piece_lanes K n e (piece_at ps p) m) u v (best p u v)

  -- the list has the stops after u of a trip from u to v at the rate r
  pub record TripAlong (m : LaneMap M) (u v : ℕ) (r : M) (list : List ℕ) : Type 0 where
    pub linked : Linked K m u list
    pub ends_there : final u list ≡ v
    pub rate_is : rate_along K m u list ≡ r

  -- a plan in order, and the best rates within its pieces
  pub record Rated (n : ℕ) (m : LaneMap M) (sides : List Side) (ps : List Piece) (area sheets : List M) (best : ℕ → ℕ → ℕ → M) : Type 0 where
    pub in_order : InOrder K n m sides ps area sheets
    pub best_within : BestWithin n m (ends_of sides) ps best

  module _ (n : ℕ) (e : Ends) (ps : List Piece) (best : ℕ → ℕ → ℕ → M) where
    -- a part's piece is one of the plan's; its ends touch the piece and differ; there is a trip
    pub record PartStands (q : Part) : Type 0 where
      pub in_range : q.piece + 5 < 2 * n
      pub from_touches : Touches n e (piece_at ps q.piece) q.from
      pub to_touches : Touches n e (piece_at ps q.piece) q.to
      pub ends_differ : q.from ≡ q.to → ⊥
      pub some_trip : part_rate K best q ≡ K.none → ⊥

    -- a part of a child of the piece p, one level further down
    pub record ChildPart (p : ℕ) (q : Part) : Type 0 where
      pub stands : PartStands q
      pub which : (c : Bool) × (q.piece ≡ child (piece_at ps p) c)
      pub level : (piece_at ps q.piece).level ≡ (piece_at ps p).level + 1

    -- the parts that a part q is split into: at most three, a chain with the same ends, parts of children, the same rate
    pub record SplitStands (q : Part) (parts : List Part) : Type 0 where
      pub at_most_three : length parts ≤ 3
      pub chain : Chain q.from q.to parts
      pub children : AllByRecursion (ChildPart q.piece) parts
      pub same_rate : joined_all K (map (part_rate K best) parts) ≡ part_rate K best q

  -- there is such a table of best rates
  abbrev pub BestWithinExists : Type 0
  BestWithinExists =
      (n : ℕ) (m : LaneMap M) (sides : List Side) (ps : List Piece) (area sheets : List M)
      → InOrder K n m sides ps area sheets → (best : ℕ → ℕ → ℕ → M) × BestWithin n m (ends_of sides) ps best

  -- a part of a cut piece is split into parts of its children that have its rate
  abbrev pub SplitKeepsTheRate : Type 0
  SplitKeepsTheRate =
      (n : ℕ) (m : LaneMap M) (sides : List Side) (ps : List Piece) (area sheets : List M) (best : ℕ → ℕ → ℕ → M)
      → Rated n m sides ps area sheets best → (q : Part) → PartStands n (ends_of sides) ps best q → Cut n (ends_of sides) ps q.piece
      → SplitStands n (ends_of sides) ps best q (split K best (ends_of sides) ps q)

  -- a part of a piece of one triangle: its stops, over the piece's lanes and over the book's, have its rate
  abbrev pub LeafStopsAreBest : Type 0
  LeafStopsAreBest =
      (n : ℕ) (m : LaneMap M) (sides : List Side) (ps : List Piece) (area sheets : List M) (best : ℕ → ℕ → ℕ → M)
      → Rated n m sides ps area sheets best → (q : Part) → PartStands n (ends_of sides) ps best q → Leaf n (ends_of sides) ps q.piece
      → TripAlong (piece_lanes K n (ends_of sides) (piece_at ps q.piece) m) q.from q.to (part_rate K best q) (leaf_stops K (ends_of sides) ps area q)
      × TripAlong m q.from q.to (part_rate K best q) (leaf_stops K (ends_of sides) ps area q)
