-- What the areas of a plan show.
-- Assumes the terms of `Changes`, `Lines`, `Ways` and `Touching`.
use Rattle.std.specs.Prelude.{ℕ, Bool, true, false, map}
use Rattle.rates.specs.Kinds.{Kind}
use Rattle.trips.specs.Trips.{LaneMap, BestRate}
use Rattle.records.specs.declared.Piece.{Piece}
use Rattle.pieces.specs.Sides.{Ends, ends_of}
use Rattle.pieces.specs.Holding.{piece_at}
use Rattle.piece_rates.specs.Changes.{InOrder}
use Rattle.piece_rates.specs.Lanes.{piece_lanes}
use Rattle.piece_rates.specs.Touching.{Touches}
use Rattle.climbing.specs.Lines.{LineShows}
use Rattle.climbing.specs.Ways.{Reaches, Parts}
use Rattle.quoting.specs.declared.areas.Areas.{Areas}
use Rattle.quoting.specs.declared.lines.Line.{Line}
use Rattle.quoting.specs.declared.lines.Direction.{Direction}
use Rattle.quoting.specs.declared.lines.Direction.TheVariants.{From, Into}
use Rattle.quoting.specs.Places.{shown}

-- whether rates run into the terminal of a line
abbrev pub is_into : Direction → Bool
is_into From = false
is_into Into = true

-- the ends of the sides, and the record of the piece p
abbrev pub ends : {V : Type 0} → Areas V → Ends
ends a = ends_of a.records.sides.now

abbrev pub piece_of : {V : Type 0} → Areas V → ℕ → Piece
piece_of a p = piece_at a.records.pieces.now p

-- in a plan of n terminals, the terminal u touches the piece p
abbrev pub TouchesPiece : {V : Type 0} → Areas V → ℕ → ℕ → ℕ → Type 0
TouchesPiece a n p u = Touches n (ends a) (piece_of a p) u

-- the piece r is p or below it, and touches u
abbrev pub ReachesFrom : {V : Type 0} → Areas V → ℕ → ℕ → ℕ → ℕ → Type 0
ReachesFrom a n p u r = Reaches n (ends a) a.records.pieces.now p u r

-- the piece r, at or below p, is where the way down towards both u and v ends or parts
abbrev pub PartsFrom : {V : Type 0} → Areas V → ℕ → ℕ → ℕ → ℕ → ℕ → Type 0
PartsFrom a n p u v r = Parts n (ends a) a.records.pieces.now p u v r

module _ {V M : Type 0} (K : Kind M) (means : V → M) where
  -- the areas hold a plan in order, of n terminals and with the lanes m
  abbrev pub PlanInOrder : Areas V → ℕ → LaneMap M → Type 0
  PlanInOrder a n m = InOrder K n m a.records.sides.now a.records.pieces.now (map means a.lanes.now) (map means a.sheets.now)

  -- r is the best rate from u to v over the lanes of the piece p
  abbrev pub BestWithin : Areas V → ℕ → LaneMap M → ℕ → ℕ → ℕ → V → Type 0
  BestWithin a n m p u v r = BestRate K (piece_lanes K n (ends a) (piece_of a p) m) u v (means r)

  -- the line shows the best rates between u and the edge terminals of the piece p over its lanes
  abbrev pub LineAt : Areas V → ℕ → LaneMap M → ℕ → Direction → ℕ → Line V → Type 0
  LineAt a n m p direction u line = LineShows K n (ends a) (piece_of a p) m (is_into direction) u (shown means line)
