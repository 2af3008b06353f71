-- What a sheet shows: the best rates between a piece's edge terminals over its own lanes.
-- Assumes the terms of `Lanes`.
use Rattle.std.specs.Prelude.{◌≡◌, ℕ, ◌+◌, ◌*◌, ◌<◌, ◌≤◌, List, length, take, drop, slice_index, slice_index_or}
use Rattle.rates.specs.Kinds.{Kind}
use Rattle.trips.specs.Trips.{LaneMap, BestRate}
use Rattle.records.specs.declared.Piece.{Piece}
use Rattle.records.specs.Few.{listed}
use Rattle.pieces.specs.Sides.{Ends}
use Rattle.piece_rates.specs.Lanes.{piece_lanes}

module _ {M : Type 0} (K : Kind M) where
  -- A sheet (a boundary distance table) of a piece: place 8i + j holds the best rate from its edge terminal i to its edge
  -- terminal j over its own lanes. Unused places hold none.
  pub record SheetShows (n : ℕ) (e : Ends) (P : Piece) (m : LaneMap M) (sheet : List M) : Type 0 where
    pub best : (i j : ℕ) → i < length (listed P.edges) → j < length (listed P.edges)
        → BestRate K (piece_lanes K n e P m) (slice_index (listed P.edges) i) (slice_index (listed P.edges) j) (slice_index_or sheet (8 * i + j) K.none)
    pub row_unused : (i j : ℕ) → length (listed P.edges) ≤ i → i < 8 → j < 8 → slice_index_or sheet (8 * i + j) K.none ≡ K.none
    pub column_unused : (i j : ℕ) → i < 8 → length (listed P.edges) ≤ j → j < 8 → slice_index_or sheet (8 * i + j) K.none ≡ K.none

  -- the sheet of the piece p in the area of all sheets
  abbrev pub sheet_of : List M → ℕ → List M
  sheet_of sheets p = take 64 (drop (64 * p) sheets)
