-- A parent's sheet, place by place, and what makes it show the parent's best rates.
-- Assumes the terms of `Climbing` and `Sizes`.
use Rattle.std.specs.Prelude.{◌≡◌, ℕ, ◌+◌, ◌*◌, ◌<◌, ◌≤◌, List, length, slice_index, slice_index_or}
use Rattle.rates.specs.Kinds.{Kind}
use Rattle.trips.specs.Trips.{LaneMap}
use Rattle.records.specs.declared.Piece.{Piece}
use Rattle.records.specs.Few.{listed}
use Rattle.pieces.specs.Sides.{Ends}
use Rattle.piece_rates.specs.Sheets.{SheetShows}
use Rattle.piece_rates.specs.Sizes.{Within, PlanLanes}
use Rattle.piece_rates.specs.Climbing.{CutShape, parent_entry}

module _ {M : Type 0} (K : Kind M) where
  -- Place 8i + j holds the climb from P's edge terminal i to its edge terminal j over the sheets a of A and b of B, which meet
  -- in the seam from x to y. Unused places hold none.
  pub record ParentSheet (P A B : Piece) (x y : ℕ) (a b sheet : List M) : Type 0 where
    pub climbs : (i j : ℕ) → i < length (listed P.edges) → j < length (listed P.edges)
        → slice_index_or sheet (8 * i + j) K.none ≡ parent_entry K A B a b x y (slice_index (listed P.edges) i) (slice_index (listed P.edges) j)
    pub row_unused : (i j : ℕ) → length (listed P.edges) ≤ i → i < 8 → j < 8 → slice_index_or sheet (8 * i + j) K.none ≡ K.none
    pub column_unused : (i j : ℕ) → i < 8 → length (listed P.edges) ≤ j → j < 8 → slice_index_or sheet (8 * i + j) K.none ≡ K.none

  -- The parts A and B of P meet in the seam from x to y, and the sheets a and b show their best rates.
  pub record PartsShown (n : ℕ) (e : Ends) (m : LaneMap M) (P A B : Piece) (x y : ℕ) (a b : List M) : Type 0 where
    pub lanes : PlanLanes K n m
    pub shape : CutShape n e x y P A B
    pub first_shown : SheetShows K n e A m a
    pub second_shown : SheetShows K n e B m b

  -- Then the parent's sheet shows P's best rates, and its parts' sheets hold no rate too large to be joined exactly.
  abbrev pub ParentShows : Type 0
  ParentShows =
      (n : ℕ) (e : Ends) (m : LaneMap M) (P A B : Piece) (x y : ℕ) (a b sheet : List M)
      → PartsShown n e m P A B x y a b → ParentSheet P A B x y a b sheet → SheetShows K n e P m sheet

  abbrev pub ShownIsWithin : Type 0
  ShownIsWithin =
      (n : ℕ) (e : Ends) (m : LaneMap M) (P : Piece) (sheet : List M)
      → PlanLanes K n m → SheetShows K n e P m sheet → length sheet ≤ 64 → Within K sheet
