-- The sheets of a plan on which no lane stands: still from a terminal to itself, and none between two.
-- Assumes the terms of `Changes`.
use Rattle.std.specs.Prelude.{◌≡◌, ℕ, ◌+◌, ◌*◌, ◌/◌, ◌%◌, ◌<◌, ◌≤◌, cond, ◌&&◌, List, length, ◌==◌, nat_lt, slice_index_or}
use Rattle.rates.specs.Kinds.{Kind}
use Rattle.trips.specs.Trips.{LaneMap}
use Rattle.records.specs.declared.Piece.{Piece}
use Rattle.records.specs.Few.{listed}
use Rattle.pieces.specs.Sides.{Ends}
use Rattle.pieces.specs.Holding.{piece_at}
use Rattle.pieces.specs.Division.{Division}
use Rattle.piece_rates.specs.Changes.{AllShown}

module _ {M : Type 0} (K : Kind M) where
  -- no lane stands
  abbrev pub NoLanes : LaneMap M → Type 0
  NoLanes m = (u v : ℕ) → m u v ≡ K.none

  -- place k of the sheet of a piece with so many edge terminals
  abbrev pub bare_place : ℕ → ℕ → M
  bare_place count k = cond (k / 8 == k % 8 && nat_lt (k % 8) count) K.still K.none

  -- the sheet of each piece that there is room for
  abbrev pub BareSheets : List Piece → List M → Type 0
  BareSheets ps sheets =
      (p : ℕ) → p < length ps → 64 * p + 64 ≤ length sheets
      → (k : ℕ) → k < 64 → slice_index_or sheets (64 * p + k) K.none ≡ bare_place (length (listed (piece_at ps p).edges)) k

  -- they show the best rates of a plan on which no lane stands
  abbrev pub BareSheetsShow : Type 0
  BareSheetsShow =
      (n : ℕ) (e : Ends) (ps : List Piece) (m : LaneMap M) (sheets : List M)
      → NoLanes m → Division n e ps → 2 * n ≤ length ps + 5 → 64 * (2 * n) ≤ length sheets + 320 → BareSheets ps sheets
      → AllShown K n e ps m sheets
