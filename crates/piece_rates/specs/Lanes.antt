-- The lanes of a plan: which side a lane runs along, which pieces hold it, and the lane map that an area of rates shows.
-- Assumes nothing; n is the number of terminals, e the ends of the sides, M the members of a kind of rate.
use Rattle.std.specs.Prelude.{◌≡◌, ℕ, zero, suc, ◌+◌, ◌-◌, ◌*◌, ◌<◌, Bool, false, ◌&&◌, ◌||◌, ◌⊎◌, List, ◌==◌, nat_le, slice_index_or}
use Rattle.rates.specs.Kinds.{Kind}
use Rattle.trips.specs.Trips.{LaneMap, Standing, restricted}
use Rattle.records.specs.declared.Piece.{Piece}
use Rattle.pieces.specs.Sides.{Ends, span, right_of, Belongs}
use Rattle.pieces.specs.Holding.{holds, Holds}

-- The lane from u to v runs along the side i.
abbrev pub RunsAlong : Ends → ℕ → ℕ → ℕ → Type 0
RunsAlong e i u v = ((u ≡ e.low i) × (v ≡ e.high i)) ⊎ ((u ≡ e.high i) × (v ≡ e.low i))

-- The piece holds the lane from u to v: it holds the triangle that the lane's side belongs to.
pub record HoldsLane (n : ℕ) (e : Ends) (P : Piece) (u v : ℕ) : Type 0 where
  pub side : ℕ
  pub in_range : side + 3 < 2 * n
  pub along : RunsAlong e side u v
  pub triangle : ℕ
  pub triangle_in_range : triangle + 3 < 2 * n
  pub belongs : Belongs (span e) side triangle
  pub held_there : Holds (span e) P triangle

-- The same as a test: some side and some triangle below 2n - 3.
abbrev pub any : ℕ → (ℕ → Bool) → Bool
any zero f = false
any (suc k) f = f k || any k f

abbrev pub runs_along : Ends → ℕ → ℕ → ℕ → Bool
runs_along e i u v = (u == e.low i && v == e.high i) || (u == e.high i && v == e.low i)

abbrev pub belongs_to : (ℕ → ℕ) → ℕ → ℕ → Bool
belongs_to len i b = (nat_le 2 (len i) && b == i) || (len i == 1 && (nat_le 2 (len b) && (i == b + 1 || i == right_of len b)))

abbrev pub holds_lane : ℕ → Ends → Piece → ℕ → ℕ → Bool
holds_lane n e P u v =
    any (2 * n - 3) (λ i. runs_along e i u v && any (2 * n - 3) (λ b. belongs_to (span e) i b && holds (span e) P b))

module _ {M : Type 0} (K : Kind M) where
  -- The lanes of a piece: the book's, and none where the piece does not hold the lane.
  abbrev pub piece_lanes : ℕ → Ends → Piece → LaneMap M → LaneMap M
  piece_lanes n e P m = restricted K (holds_lane n e P) m

  -- An area of rates shows a lane map: place 2i has the lane along the side i from its low end to its high end,
  -- place 2i + 1 the one back, and no other lane stands.
  pub record LanesShown (n : ℕ) (e : Ends) (area : List M) (m : LaneMap M) : Type 0 where
    pub up : (i : ℕ) → i + 3 < 2 * n → m (e.low i) (e.high i) ≡ slice_index_or area (2 * i) K.none
    pub down : (i : ℕ) → i + 3 < 2 * n → m (e.high i) (e.low i) ≡ slice_index_or area (2 * i + 1) K.none
    pub only_sides : (u v : ℕ) → Standing K m u v → (i : ℕ) × (i + 3 < 2 * n) × RunsAlong e i u v
