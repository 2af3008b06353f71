-- The division of a filled ring into pieces: what the piece records have to say, clause by clause.
-- Assumes the terms of `Sides`, `Holding` and `Limits`; n is the number of terminals, so there are 2n - 3 sides and 2n - 5 pieces.
use Rattle.std.specs.Prelude.{◌≡◌, ℕ, ◌+◌, ◌*◌, ◌<◌, ◌≤◌, ◌⊎◌, List, length, slice_index_or}
use Rattle.ring.specs.declared.Side.{Side}
use Rattle.records.specs.declared.Piece.{Piece}
use Rattle.records.specs.Few.{listed, Among, RisingFrom, Pinned}
use Rattle.records.specs.Limits.{limit, share}
use Rattle.pieces.specs.Sides.{Ends, span, no_side, Child, Belongs}
use Rattle.pieces.specs.Holding.{piece_at, Holds, held, bounds, others, BoundingSeam, EndOf}

-- piece 0 is the whole plan
pub record WholePlan (P : Piece) : Type 0 where
  pub no_parent : P.parent ≡ 0
  pub level_0 : P.level ≡ 0
  pub root_side : P.top ≡ 0
  pub no_holes : P.holes.count ≡ 0

-- a piece of one triangle is not cut
pub record Uncut (n : ℕ) (len : ℕ → ℕ) (P : Piece) : Type 0 where
  pub one_triangle : held n len P ≡ 1
  pub its_base : Holds len P P.top
  pub only_that : (b : ℕ) → Holds len P b → b ≡ P.top
  pub no_first : P.first ≡ 0
  pub no_second : P.second ≡ 0
  pub no_seam : P.seam ≡ 0

-- the side s is inner to P: both its triangles, the one on it and the one above it, are held by P
pub record InnerSide (len : ℕ → ℕ) (P : Piece) (s : ℕ) : Type 0 where
  pub on_it : Holds len P s
  pub base_above : ℕ
  pub child_of_it : Child len base_above s
  pub above_it : Holds len P base_above

-- the triangles of P are those of A and those of B, and none is in both
pub record Partition (len : ℕ → ℕ) (P A B : Piece) : Type 0 where
  pub covered : (b : ℕ) → Holds len P b → Holds len A b ⊎ Holds len B b
  pub first_in : (b : ℕ) → Holds len A b → Holds len P b
  pub second_in : (b : ℕ) → Holds len B b → Holds len P b
  pub apart : (b : ℕ) → Holds len A b → Holds len B b → ⊥

-- the piece p of several triangles is cut along its seam into its children A and B
pub record CutInTwo (n : ℕ) (len : ℕ → ℕ) (p : ℕ) (P A B : Piece) : Type 0 where
  pub several : 2 ≤ held n len P
  pub first_number : P.first ≡ p + 1
  pub second_number : P.second ≡ p + 2 * held n len A
  pub in_order : P.first < P.second
  pub in_range : P.second + 5 < 2 * n
  pub first_parent : A.parent ≡ p
  pub second_parent : B.parent ≡ p
  pub first_level : A.level ≡ P.level + 1
  pub second_level : B.level ≡ P.level + 1
  pub inner : InnerSide len P P.seam
  -- the first part lies below the seam, the second keeps the top
  pub first_top : A.top ≡ P.seam
  pub second_top : B.top ≡ P.top
  pub parts : Partition len P A B
  pub sizes : held n len A + held n len B ≡ held n len P
  -- with four bounding seams, the cut leaves two of them to each part
  pub four_seams : length (bounds P) ≡ 4 → (length (others P.seam (bounds A)) ≡ 2) × (length (others P.seam (bounds B)) ≡ 2)
  -- otherwise it leaves each part at most (2t+1) div 3 of its t triangles
  pub fewer_seams : length (bounds P) ≤ 3 → (held n len A ≤ share (held n len P)) × (held n len B ≤ share (held n len P))
  -- the new seam bounds both parts
  pub seam_bounds_first : Among P.seam (bounds A)
  pub seam_bounds_second : Among P.seam (bounds B)

-- the edge terminals of P are the ends of its bounding seams in rising order
pub record EdgeTerminals (e : Ends) (P : Piece) : Type 0 where
  pub rising : RisingFrom 0 (listed P.edges)
  pub all : (x : ℕ) → EndOf e (bounds P) x → Among x (listed P.edges)
  pub only : (x : ℕ) → Among x (listed P.edges) → EndOf e (bounds P) x

-- what the record P of the piece p says
pub record PieceStands (n : ℕ) (e : Ends) (ps : List Piece) (p : ℕ) (P : Piece) : Type 0 where
  pub child_of_parent : 0 < p → (P.parent < p) × (((piece_at ps P.parent).first ≡ p) ⊎ ((piece_at ps P.parent).second ≡ p))
  pub cut : Uncut n (span e) P ⊎ CutInTwo n (span e) p P (piece_at ps P.first) (piece_at ps P.second)
  pub seams_listed : (s : ℕ) → BoundingSeam (span e) ps p P s → Among s (bounds P)
  pub seams_only : (s : ℕ) → Among s (bounds P) → BoundingSeam (span e) ps p P s
  pub at_most_four : length (bounds P) ≤ 4
  pub holes_rise : RisingFrom (P.top + 1) (listed P.holes)
  pub top_in_range : P.top + 3 < 2 * n
  pub sides_in_range : (s : ℕ) → Among s (bounds P) → s + 3 < 2 * n
  pub edge_terminals : EdgeTerminals e P
  pub holes_pinned : Pinned P.holes
  pub edges_pinned : Pinned P.edges
  pub within_row : (k : ℕ) → P.level ≡ 2 * k → held n (span e) P ≤ limit k
  pub not_deeper : P.level ≤ 40

-- the first 2n - 5 records are a division
pub record Division (n : ℕ) (e : Ends) (ps : List Piece) : Type 0 where
  pub whole_plan : WholePlan (piece_at ps 0)
  pub stands : (p : ℕ) → p + 5 < 2 * n → PieceStands n e ps p (piece_at ps p)

-- the side i names the uncut piece that holds the triangle its lanes belong to
pub record LeafMarked (n : ℕ) (len : ℕ → ℕ) (ps : List Piece) (i leaf : ℕ) : Type 0 where
  pub triangle : ℕ
  pub belongs : Belongs len i triangle
  pub in_range : leaf + 5 < 2 * n
  pub uncut : Uncut n len (piece_at ps leaf)
  pub holds_it : Holds len (piece_at ps leaf) triangle

abbrev pub LeavesMarked : ℕ → List Side → (ℕ → ℕ) → List Piece → Type 0
LeavesMarked n ss len ps = (i : ℕ) → i + 3 < 2 * n → LeafMarked n len ps i (slice_index_or ss i no_side).leaf
