-- A cut piece at its seam in a plan whose best rates are known, and the ways to split a part of it.
-- Assumes the terms of `unfolding` and `quoting`.
use Rattle.std.specs.Prelude.{◌≡◌, ℕ, ◌+◌, ◌*◌, ◌<◌, ◌≤◌, Bool, not, List, [], map}
use Rattle.rates.specs.Kinds.{Kind}
use Rattle.trips.specs.Trips.{LaneMap}
use Rattle.ring.specs.declared.Side.{Side}
use Rattle.records.specs.declared.Piece.{Piece}
use Rattle.pieces.specs.Sides.{ends_of}
use Rattle.pieces.specs.Holding.{piece_at}
use Rattle.piece_rates.specs.Sizes.{largest}
use Rattle.piece_rates.specs.Touching.{Touches}
use Rattle.quoting.specs.declared.areas.Areas.{Areas}
use Rattle.quoting.specs.Areas.{ends, TouchesPiece}
use Rattle.unfolding.specs.Parts.{Part, kept, part_rate, child, child_part, child_rate, across_rate, across_parts, round_rate, round_parts, split_across, split_at, split_together}
use Rattle.unfolding.specs.Splitting.{Cut, Rated}
use Rattle.quoting.specs.declared.seams.Seam.{Seam}
use Rattle.routing.specs.declared.split.SeamPart.{SeamPart}
use Rattle.routing.specs.declared.split.Way.{Way}
use Rattle.routing.specs.declared.waiting.Parts.{Parts}
use Rattle.routing.specs.declared.waiting.RoutePart.{RoutePart}
use Rattle.quoting.specs.Seams.{is_first}
use Rattle.routing.specs.Waiting.{kept_all}

-- u is a terminal of a child of P
abbrev pub Touching : ℕ → List Side → List Piece → Piece → Bool → ℕ → Type 0
Touching n sides ps P c u = Touches n (ends_of sides) (piece_at ps (child P c)) u

module _ {M : Type 0} (K : Kind M) where
  -- P is a cut piece of the plan, with the seam from x to y
  pub record AtSeam (n : ℕ) (m : LaneMap M) (sides : List Side) (ps : List Piece) (area sheets : List M) (best : ℕ → ℕ → ℕ → M) (P : Piece) (x y : ℕ) : Type 0 where
    pub rated : Rated K n m sides ps area sheets best
    pub number : ℕ
    pub in_range : number + 5 < 2 * n
    pub record_is : P ≡ piece_at ps number
    pub cut : Cut n (ends_of sides) ps number
    pub low_is : x ≡ (ends_of sides).low P.seam
    pub high_is : y ≡ (ends_of sides).high P.seam

  -- r is the best rate of a part, and not too large
  pub record PartRate (best : ℕ → ℕ → ℕ → M) (q : Part) (r : M) : Type 0 where
    pub is : r ≡ part_rate K best q
    pub small : K.size r ≤ largest

-- The plan that the areas hold, which is in order: how many terminals it has, its lanes, and the best rates within its pieces.
pub record RatedPlan {V M : Type 0} (K : Kind M) (means : V → M) (a : Areas V) : Type 0 where
  pub n : ℕ
  pub lanes : LaneMap M
  pub best : ℕ → ℕ → ℕ → M
  pub rated : Rated K n lanes a.records.sides.now a.records.pieces.now (map means a.lanes.now) (map means a.sheets.now) best

module _ {V M : Type 0} {K : Kind M} {means : V → M} {a : Areas V} (plan : RatedPlan K means a) where
  -- a part's piece is one of the plan's, and its ends touch it
  pub record PartTouches (q : Part) : Type 0 where
    pub in_range : q.piece + 5 < 2 * plan.n
    pub from_touches : TouchesPiece a plan.n q.piece q.from
    pub to_touches : TouchesPiece a plan.n q.piece q.to

  -- the seam is that of a cut piece of the plan
  abbrev pub IsSeamOf : Seam → Type 0
  IsSeamOf s = AtSeam K plan.n plan.lanes a.records.sides.now a.records.pieces.now (map means a.lanes.now) (map means a.sheets.now) plan.best s.piece s.low s.high

  -- u is a terminal of the piece that was cut, or of a child of it
  abbrev pub TouchesSeam : Seam → ℕ → Type 0
  TouchesSeam s u = Touches plan.n (ends a) s.piece u

  abbrev pub TouchesChild : Seam → Bool → ℕ → Type 0
  TouchesChild s c u = Touching plan.n a.records.sides.now a.records.pieces.now s.piece c u

-- the way has these parts, and this rate
pub record IsWay {V M : Type 0} (means : V → M) (w : Way V) (parts : List Part) (rate : M) : Type 0 where
  pub parts_are : kept_all w.parts [] ≡ parts
  pub rate_is : means w.rate ≡ rate

module _ {V M : Type 0} {K : Kind M} {means : V → M} (p : SeamPart V) (plan : RatedPlan K means p.areas) where
  -- the part's ends lie both in the child, or one in it and one in the other
  pub record BothInChild : Type 0 where
    pub seam : IsSeamOf plan p.seam
    pub from_in : TouchesChild plan p.seam (is_first p.child) p.part.from
    pub to_in : TouchesChild plan p.seam (is_first p.child) p.part.to

  pub record EndsApart : Type 0 where
    pub seam : IsSeamOf plan p.seam
    pub from_in : TouchesChild plan p.seam (is_first p.child) p.part.from
    pub to_in : TouchesChild plan p.seam (not (is_first p.child)) p.part.to

  -- the ways: within the child, round by the end i, and across by the end i
  abbrev pub Within : Way V → Type 0
  Within w =
      IsWay means w (kept (child_part K plan.best p.seam.piece p.seam.low p.seam.high p.part.from p.part.to (is_first p.child) p.part.from p.part.to) [])
      (child_rate K plan.best p.seam.piece p.seam.low p.seam.high p.part.from p.part.to (is_first p.child) p.part.from p.part.to)

  abbrev pub Round : Bool → Way V → Type 0
  Round i w =
      IsWay means w (round_parts K plan.best p.seam.piece p.seam.low p.seam.high p.part.from p.part.to (is_first p.child) i)
      (round_rate K plan.best p.seam.piece p.seam.low p.seam.high p.part.from p.part.to (is_first p.child) i)

  abbrev pub Across : Bool → Way V → Type 0
  Across i w =
      IsWay means w (across_parts K plan.best p.seam.piece p.seam.low p.seam.high p.part.from p.part.to (is_first p.child) i)
      (across_rate K plan.best p.seam.piece p.seam.low p.seam.high p.part.from p.part.to (is_first p.child) i)

  -- the parts are those of the best of these ways
  abbrev pub SplitTogether : Parts → Type 0
  SplitTogether parts =
      kept_all parts [] ≡ split_together K plan.best p.seam.piece p.seam.low p.seam.high p.part.from p.part.to (is_first p.child)

  abbrev pub SplitAcross : Parts → Type 0
  SplitAcross parts =
      kept_all parts [] ≡ split_across K plan.best p.seam.piece p.seam.low p.seam.high p.part.from p.part.to (is_first p.child)

-- the parts are those that a part of a cut piece is split into
abbrev pub SplitAt : {V M : Type 0} {K : Kind M} {means : V → M} {a : Areas V} → RatedPlan K means a → Seam → RoutePart → Parts → Type 0
SplitAt {K = K} plan s q parts = kept_all parts [] ≡ split_at K plan.best s.piece s.low s.high q.from q.to
