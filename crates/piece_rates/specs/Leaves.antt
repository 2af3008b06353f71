-- The lanes and the sheet of a piece of one triangle.
-- Assumes the terms of `Lanes`, `Sheets` and `Triangles`; b is the triangle's base, area the lane rates by side and direction.
use Rattle.std.specs.Prelude.{◌≡◌, ℕ, ◌+◌, ◌*◌, ◌<◌, ◌≤◌, Bool, cond, ◌&&◌, List, length, ◌==◌, slice_index, slice_index_or}
use Rattle.rates.specs.Kinds.{Kind}
use Rattle.trips.specs.Trips.{LaneMap}
use Rattle.records.specs.declared.Piece.{Piece}
use Rattle.records.specs.Few.{listed}
use Rattle.pieces.specs.Sides.{Ends, span, right_of, Filled}
use Rattle.pieces.specs.Division.{Uncut}
use Rattle.piece_rates.specs.Lanes.{piece_lanes, LanesShown}
use Rattle.piece_rates.specs.Sheets.{SheetShows}
use Rattle.piece_rates.specs.Sizes.{largest, PlanLanes}
use Rattle.piece_rates.specs.Triangles.{triangle_entry}

module _ {M : Type 0} (K : Kind M) where
  -- the lanes up and down a side from a to b, and others elsewhere
  abbrev pub along : ℕ → ℕ → M → M → ℕ → ℕ → M → M
  along a b up down u v others = cond (u == a && v == b) up (cond (u == b && v == a) down others)

  -- the six lanes between the corners a, b and c: those of the sides from a to b, from b to c, and from a to c
  abbrev pub corner_lanes : ℕ → ℕ → ℕ → M → M → M → M → M → M → LaneMap M
  corner_lanes a b c up down up' down' up'' down'' u v = along a b up down u v (along b c up' down' u v (along a c up'' down'' u v K.none))

  -- a rate from the lane area, and none where a condition fails
  abbrev pub rate_if : Bool → List M → ℕ → M
  rate_if g area k = cond g (slice_index_or area k K.none) K.none

  -- The lanes of the triangle with the base b: those of the base, and those of the other two sides where they have length 1
  -- (the lanes of a longer one belong to the triangle on it).
  abbrev pub leaf_lanes : Ends → ℕ → List M → LaneMap M
  leaf_lanes e b area =
      corner_lanes (e.low b) (e.high (b + 1)) (e.high b)
      (rate_if (span e (b + 1) == 1) area (2 * (b + 1))) (rate_if (span e (b + 1) == 1) area (2 * (b + 1) + 1))
      (rate_if (span e (right_of (span e) b) == 1) area (2 * right_of (span e) b)) (rate_if (span e (right_of (span e) b) == 1) area (2 * right_of (span e) b + 1))
      (slice_index_or area (2 * b) K.none) (slice_index_or area (2 * b + 1) K.none)

  abbrev pub LanesWithin : LaneMap M → Type 0
  LanesWithin m = (u v : ℕ) → K.size (m u v) ≤ largest

  -- the sheet of a piece of one triangle, place by place
  pub record LeafSheet (e : Ends) (P : Piece) (area sheet : List M) : Type 0 where
    pub entries : (i j : ℕ) → i < length (listed P.edges) → j < length (listed P.edges)
        → slice_index_or sheet (8 * i + j) K.none
        ≡ triangle_entry K (e.low P.top) (e.high (P.top + 1)) (e.high P.top) (leaf_lanes e P.top area) (slice_index (listed P.edges) i) (slice_index (listed P.edges) j)
    pub row_unused : (i j : ℕ) → length (listed P.edges) ≤ i → i < 8 → j < 8 → slice_index_or sheet (8 * i + j) K.none ≡ K.none
    pub column_unused : (i j : ℕ) → i < 8 → length (listed P.edges) ≤ j → j < 8 → slice_index_or sheet (8 * i + j) K.none ≡ K.none

  -- P is a piece of one triangle of a filled ring, and the area shows the lanes of the plan
  pub record LeafStands (n : ℕ) (e : Ends) (m : LaneMap M) (P : Piece) (area : List M) : Type 0 where
    pub lanes : PlanLanes K n m
    pub filled : Filled n e
    pub uncut : Uncut n (span e) P
    pub top_in_range : P.top + 3 < 2 * n
    pub shown : LanesShown K n e area m

  abbrev pub LeafLanesAreHeld : Type 0
  LeafLanesAreHeld =
      (n : ℕ) (e : Ends) (m : LaneMap M) (P : Piece) (area : List M) → LeafStands n e m P area
      → ((u v : ℕ) → piece_lanes K n e P m u v ≡ leaf_lanes e P.top area u v) × LanesWithin (leaf_lanes e P.top area)

  abbrev pub LeafShows : Type 0
  LeafShows =
      (n : ℕ) (e : Ends) (m : LaneMap M) (P : Piece) (area sheet : List M)
      → LeafStands n e m P area → LeafSheet e P area sheet → SheetShows K n e P m sheet
