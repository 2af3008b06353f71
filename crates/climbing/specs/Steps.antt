-- Lines of a plan in order, from a piece to its parent.
-- Assumes the terms of `Lines` and `Changes`.
use Rattle.std.specs.Prelude.{◌≡◌, ℕ, ◌+◌, ◌*◌, ◌<◌, Bool, true, false, cond, ◌⊎◌, List, ◌==◌, ◌≢◌}
use Rattle.rates.specs.Kinds.{Kind}
use Rattle.rates.specs.Many.{better_of}
use Rattle.trips.specs.Trips.{LaneMap, BestRate}
use Rattle.ring.specs.declared.Side.{Side}
use Rattle.records.specs.declared.Piece.{Piece}
use Rattle.records.specs.Few.{listed, Among}
use Rattle.pieces.specs.Sides.{Ends, ends_of, Filled}
use Rattle.pieces.specs.Holding.{piece_at}
use Rattle.pieces.specs.Division.{Division}
use Rattle.piece_rates.specs.Lanes.{piece_lanes}
use Rattle.piece_rates.specs.Sheets.{sheet_of}
use Rattle.piece_rates.specs.Changes.{InOrder}
use Rattle.piece_rates.specs.Sizes.{Within}
use Rattle.piece_rates.specs.Touching.{Touches}
use Rattle.climbing.specs.Ways.{towards, Parting}
use Rattle.climbing.specs.Lines.{LineShows, ClimbedLine, by_column}

-- the piece on the other side of the seam that made p: its parent's other child
abbrev pub across_of : List Piece → ℕ → ℕ
across_of ps p = cond ((piece_at ps (piece_at ps p).parent).first == p) (piece_at ps (piece_at ps p).parent).second (piece_at ps (piece_at ps p).parent).first

-- the seam that made p
abbrev pub seam_of_piece : List Piece → ℕ → ℕ
seam_of_piece ps p = (piece_at ps (piece_at ps p).parent).seam

abbrev pub edges_of : List Piece → ℕ → List ℕ
edges_of ps p = listed (piece_at ps p).edges

-- x and y are edge terminals of the piece p
abbrev pub BothEdges : List Piece → ℕ → ℕ → ℕ → Type 0
BothEdges ps p x y = Among x (edges_of ps p) × Among y (edges_of ps p)

-- the ends of the seam that made p are edge terminals of p and of the piece on its other side
pub record SeamStands (e : Ends) (ps : List Piece) (p : ℕ) : Type 0 where
  pub own : BothEdges ps p (e.low (seam_of_piece ps p)) (e.high (seam_of_piece ps p))
  pub across : BothEdges ps (across_of ps p) (e.low (seam_of_piece ps p)) (e.high (seam_of_piece ps p))

-- p has the two children own, which touches u, and across, which touches v
pub record PartedAt (n : ℕ) (e : Ends) (ps : List Piece) (p u v own across : ℕ) : Type 0 where
  pub own_in_range : own + 5 < 2 * n
  pub own_not_first : 0 < own
  pub own_parent : (piece_at ps own).parent ≡ p
  pub own_touches : Touches n e (piece_at ps own) u
  pub across_in_range : across + 5 < 2 * n
  pub across_not_first : 0 < across
  pub across_parent : (piece_at ps across).parent ≡ p
  pub across_touches : Touches n e (piece_at ps across) v

-- where the way down towards u and v parts, they belong to the two children
abbrev pub PartedBetweenChildren : Type 0
PartedBetweenChildren =
    (n : ℕ) (e : Ends) (ps : List Piece) → Filled n e → Division n e ps → (p u v : ℕ) → p + 5 < 2 * n → ((piece_at ps p).first ≢ 0)
    → Touches n e (piece_at ps p) u → Touches n e (piece_at ps p) v → Parting e (piece_at ps p) u v
    → PartedAt n e ps p u v (towards e (piece_at ps p) u) (across_of ps (towards e (piece_at ps p) u))

module _ {M : Type 0} (K : Kind M) where
  -- a line climbed from p to its parent
  abbrev pub ClimbedFrom : Ends → List Piece → List M → ℕ → Bool → List M → List M → Type 0
  ClimbedFrom e ps sheets p into line line' =
      ClimbedLine K into (edges_of ps (piece_at ps p).parent) (edges_of ps p) (edges_of ps (across_of ps p)) (sheet_of K sheets p) (sheet_of K sheets (across_of ps p))
      (e.low (seam_of_piece ps p)) (e.high (seam_of_piece ps p)) line line'

  -- by the seam that made p, from a line at p to a line at a piece there
  abbrev pub by_seam_from : Ends → List Piece → List M → ℕ → ℕ → List M → List M → ℕ → M
  by_seam_from e ps sheets p there row column v =
      by_column K (edges_of ps p) (edges_of ps (across_of ps p)) (edges_of ps there) (sheet_of K sheets (across_of ps p))
      (e.low (seam_of_piece ps p)) (e.high (seam_of_piece ps p)) row column v

  abbrev pub lanes_of : ℕ → Ends → List Piece → LaneMap M → ℕ → LaneMap M
  lanes_of n e ps m p = piece_lanes K n e (piece_at ps p) m

  -- what a step up from p to its parent keeps
  pub record StepKeeps (n : ℕ) (e : Ends) (ps : List Piece) (m : LaneMap M) (sheets : List M) (p : ℕ) : Type 0 where
    pub own_within : Within K (sheet_of K sheets p)
    pub across_within : Within K (sheet_of K sheets (across_of ps p))
    pub across_in_range : across_of ps p + 5 < 2 * n
    pub stands : SeamStands e ps p
    pub edges_kept : (u : ℕ) → Among u (edges_of ps (piece_at ps p).parent) → Among u (edges_of ps p) ⊎ Among u (edges_of ps (across_of ps p))
    pub climbs : (into : Bool) (u : ℕ) (line line' : List M) → Touches n e (piece_at ps p) u → LineShows K n e (piece_at ps p) m into u line → ClimbedFrom e ps sheets p into line line'
        → LineShows K n e (piece_at ps (piece_at ps p).parent) m into u line'
    pub same_side : (u v : ℕ) (row column : List M) (direct : M) → Touches n e (piece_at ps p) u → Touches n e (piece_at ps p) v
        → LineShows K n e (piece_at ps p) m false u row → LineShows K n e (piece_at ps p) m true v column → BestRate K (lanes_of n e ps m p) u v direct
        → BestRate K (lanes_of n e ps m (piece_at ps p).parent) u v (better_of K direct (by_seam_from e ps sheets p p row column v))
    pub other_side : (u v : ℕ) (row column : List M) → Touches n e (piece_at ps p) u → Touches n e (piece_at ps (across_of ps p)) v
        → LineShows K n e (piece_at ps p) m false u row → LineShows K n e (piece_at ps (across_of ps p)) m true v column
        → BestRate K (lanes_of n e ps m (piece_at ps p).parent) u v (by_seam_from e ps sheets p (across_of ps p) row column v)

  abbrev pub StepsKeep : Type 0
  StepsKeep =
      (n : ℕ) (m : LaneMap M) (sides : List Side) (ps : List Piece) (area sheets : List M) → InOrder K n m sides ps area sheets
      → (p : ℕ) → 0 < p → p + 5 < 2 * n → StepKeeps n (ends_of sides) ps m sheets p
