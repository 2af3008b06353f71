-- A triangle as it is read from the side records and the lane area, and its sheet place by place.
-- Assumes the terms of `Leaves`.
use Rattle.std.specs.Prelude.{◌≡◌, ℕ, ◌+◌, ◌*◌, ◌/◌, ◌%◌, cond, ◌&&◌, List, length, ◌==◌, nat_lt, slice_index, slice_index_or}
use Rattle.rates.specs.Kinds.{Kind}
use Rattle.trips.specs.Trips.{LaneMap}
use Rattle.pieces.specs.Sides.{Ends, span, right_of}
use Rattle.piece_rates.specs.Leaves.{corner_lanes, rate_if}
use Rattle.piece_rates.specs.Triangles.{triangle_entry}
use Rattle.sheets.specs.declared.leaf.Triangle.{Triangle}

module _ {M : Type 0} (K : Kind M) where
  -- the corners and the lanes of the triangle with the base b
  pub record TriangleRead (e : Ends) (b : ℕ) (area : List M) (low third high : ℕ) (left_up left_down right_up right_down base_up base_down : M) : Type 0 where
    pub low_corner : low ≡ e.low b
    pub third_corner_is : third ≡ e.high (b + 1)
    pub high_corner : high ≡ e.high b
    pub left_up_is : left_up ≡ rate_if K (span e (b + 1) == 1) area (2 * (b + 1))
    pub left_down_is : left_down ≡ rate_if K (span e (b + 1) == 1) area (2 * (b + 1) + 1)
    pub right_up_is : right_up ≡ rate_if K (span e (right_of (span e) b) == 1) area (2 * right_of (span e) b)
    pub right_down_is : right_down ≡ rate_if K (span e (right_of (span e) b) == 1) area (2 * right_of (span e) b + 1)
    pub base_up_is : base_up ≡ slice_index_or area (2 * b) K.none
    pub base_down_is : base_down ≡ slice_index_or area (2 * b + 1) K.none

  -- place k of the sheet: between the edge terminals k div 8 and k mod 8
  abbrev pub leaf_place : ℕ → ℕ → ℕ → LaneMap M → List ℕ → ℕ → M
  leaf_place a b c m edges k =
      cond (nat_lt (k / 8) (length edges) && nat_lt (k % 8) (length edges)) (triangle_entry K a b c m (slice_index edges (k / 8)) (slice_index edges (k % 8))) K.none

-- the same of a triangle whose rates are values with a meaning
module _ {V M : Type 0} (K : Kind M) (means : V → M) where
  -- the lanes between its corners
  abbrev pub triangle_lanes : Triangle V → LaneMap M
  triangle_lanes t = corner_lanes K t.low t.third t.high (means t.left.up) (means t.left.down) (means t.right.up) (means t.right.down) (means t.base.up) (means t.base.down)

  -- the best rate from u to v over them
  abbrev pub triangle_best : Triangle V → ℕ → ℕ → M
  triangle_best t u v = triangle_entry K t.low t.third t.high (triangle_lanes t) u v

  -- place k of the sheet
  abbrev pub triangle_place : Triangle V → List ℕ → ℕ → M
  triangle_place t edges k = leaf_place K t.low t.third t.high (triangle_lanes t) edges k

  -- it is the triangle with the base b, as the sides and the lane area show it
  abbrev pub IsTriangleOn : Ends → ℕ → List M → Triangle V → Type 0
  IsTriangleOn e b area t = TriangleRead K e b area t.low t.third t.high (means t.left.up) (means t.left.down) (means t.right.up) (means t.right.down) (means t.base.up) (means t.base.down)
