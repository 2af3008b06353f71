-- Lines and their climbs by places of sheets in place of terminals.
-- Assumes nothing: a place past the end of a sheet or a line reads none.
use Rattle.std.specs.Prelude.{◌≡◌, ℕ, ◌<◌, ◌≤◌, Bool, false, cond, ◌&&◌, Some, None, Option, List, [], ◌∷◌, length, nat_lt, slice_index, slice_index_or}
use Rattle.rates.specs.Kinds.{Kind}
use Rattle.rates.specs.Many.{better_of}
use Rattle.records.specs.declared.Piece.{Piece}
use Rattle.records.specs.Few.{listed, Among, FirstPlace}
use Rattle.pieces.specs.Sides.{Ends}
use Rattle.pieces.specs.Holding.{piece_at}
use Rattle.piece_rates.specs.Climbing.{place, among}
use Rattle.piece_rates.specs.Sheets.{sheet_of}
use Rattle.sheets.specs.Triangles.{triangle_best}
use Rattle.sheets.specs.declared.leaf.Triangle.{Triangle}
use Rattle.climbing.specs.Lines.{turned, cells}
use Rattle.climbing.specs.Steps.{across_of, seam_of_piece}
use Rattle.climbing.specs.Ways.{between, outside}
use Rattle.quoting.specs.declared.lines.Line.{Line}
use Rattle.quoting.specs.declared.steps.Half.{Half}
use Rattle.quoting.specs.declared.steps.Step.{Step}

-- the members that a line's rates mean, in order
abbrev pub shown : {V M : Type 0} → (V → M) → Line V → List M
shown means l =
    means l.r0 ∷ means l.r1 ∷ means l.r2 ∷ means l.r3 ∷ means l.r4 ∷ means l.r5 ∷ means l.r6 ∷ means l.r7 ∷ []

-- where u and v stand in the list; none where one of them is missing
abbrev pub BothPlaces : List ℕ → ℕ → ℕ → Option (ℕ × ℕ) → Type 0
BothPlaces xs u v (Some k) = FirstPlace xs u k.0 × FirstPlace xs v k.1
BothPlaces xs u v None = Among u xs × Among v xs → ⊥

-- the child of P on the side of both u and v; none where they lie apart
abbrev pub common_child : Ends → Piece → ℕ → ℕ → Option ℕ
common_child e P u v =
    cond (between (e.low P.seam) (e.high P.seam) u && between (e.low P.seam) (e.high P.seam) v) (Some P.first)
    (cond (outside (e.low P.seam) (e.high P.seam) u && outside (e.low P.seam) (e.high P.seam) v) (Some P.second) None)

-- the piece p on one side of the seam from x to y
abbrev pub half_at : List Piece → ℕ → ℕ → ℕ → Half
half_at ps x y p =
    record { piece = p; edges = (piece_at ps p).edges; low = place (listed (piece_at ps p).edges) x; high = place (listed (piece_at ps p).edges) y }

-- the step up from the piece p
abbrev pub step_at : Ends → List Piece → ℕ → Step
step_at e ps p = record {
  up = (piece_at ps p).parent;
  edges = (piece_at ps (piece_at ps p).parent).edges;
  own = half_at ps (e.low (seam_of_piece ps p)) (e.high (seam_of_piece ps p)) p;
  across = half_at ps (e.low (seam_of_piece ps p)) (e.high (seam_of_piece ps p)) (across_of ps p);
}

module _ {M : Type 0} (K : Kind M) where
  -- a line holds the rate f k at each of its places k
  pub record IsLineOf (line : List M) (f : ℕ → M) : Type 0 where
    pub short : length line ≤ 8
    pub places : (k : ℕ) → k < 8 → slice_index_or line k K.none ≡ f k

  -- the rate between the edge terminals i and j of the piece p
  abbrev pub cell_at : List M → ℕ → Bool → ℕ → ℕ → M
  cell_at sheets p into i j = turned into (cells K (sheet_of K sheets p)) i j

  -- to an end of the seam: straight, or to the other end and back through the piece across
  abbrev pub to_low_at : List M → List M → Step → Bool → M
  to_low_at line sheets s into =
      better_of K (slice_index_or line s.own.low K.none) (K.join (slice_index_or line s.own.high K.none) (cell_at sheets s.across.piece into s.across.high s.across.low))

  abbrev pub to_high_at : List M → List M → Step → Bool → M
  to_high_at line sheets s into =
      better_of K (slice_index_or line s.own.high K.none) (K.join (slice_index_or line s.own.low K.none) (cell_at sheets s.across.piece into s.across.low s.across.high))

  -- by either end of the seam, at the rates low and high to them and a and b on from them
  abbrev pub by_ends_at : M → M → M → M → M
  by_ends_at low high a b = better_of K (K.join low a) (K.join high b)

  -- by either end of the seam to the edge terminal k of a piece beside it
  abbrev pub by_half_at : M → M → List M → Half → Bool → ℕ → M
  by_half_at low high sheets h into k = by_ends_at low high (cell_at sheets h.piece into h.low k) (cell_at sheets h.piece into h.high k)

  -- to the edge terminal t of the piece climbed to; none where neither piece beside the seam has it
  abbrev pub climb_at : List M → List M → Step → Bool → M → M → ℕ → M
  climb_at line sheets s into low high t =
      cond (among (listed s.own.edges) t)
      (better_of K (slice_index_or line (place (listed s.own.edges) t) K.none) (by_half_at low high sheets s.own into (place (listed s.own.edges) t)))
      (cond (among (listed s.across.edges) t) (by_half_at low high sheets s.across into (place (listed s.across.edges) t)) K.none)

  -- to its edge terminal k; none past the last
  abbrev pub climb_place_at : List M → List M → Step → Bool → M → M → ℕ → M
  climb_place_at line sheets s into low high k = cond (nat_lt k (length (listed s.edges))) (climb_at line sheets s into low high (slice_index (listed s.edges) k)) K.none

  -- place k of the line climbed to
  abbrev pub climbed_at : List M → List M → Step → Bool → ℕ → M
  climbed_at line sheets s into k = climb_place_at line sheets s into (to_low_at line sheets s into) (to_high_at line sheets s into) k

  -- between two lines by the seam; the second is at a piece beside it
  abbrev pub by_seam_at : List M → List M → Step → Half → List M → M
  by_seam_at row sheets s there column =
      by_ends_at (to_low_at row sheets s false) (to_high_at row sheets s false) (slice_index_or column there.low K.none) (slice_index_or column there.high K.none)

-- the best rate within a triangle between u and the edge terminal k; none past the last
abbrev pub triangle_place_at : {V M : Type 0} → Kind M → (V → M) → Triangle V → List ℕ → Bool → ℕ → ℕ → M
triangle_place_at K means t edges into u k = cond (nat_lt k (length edges)) (turned into (triangle_best K means t) u (slice_index edges k)) K.none
