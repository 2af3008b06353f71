-- Climbs from a piece to the pieces above it.
-- Assumes the terms of `Places` and `Areas`.
use Rattle.std.specs.Prelude.{◌≡◌, ℕ, ◌*◌, ◌≤◌, map}
use Rattle.rates.specs.Kinds.{Kind}
use Rattle.trips.specs.Trips.{LaneMap}
use Rattle.piece_rates.specs.Sheets.{sheet_of}
use Rattle.piece_rates.specs.Sizes.{largest, Within}
use Rattle.quoting.specs.declared.areas.Areas.{Areas}
use Rattle.quoting.specs.declared.climbs.Climb.{Climb}
use Rattle.quoting.specs.declared.lines.Direction.TheVariants.{From, Into}
use Rattle.quoting.specs.declared.passes.Known.{Known}
use Rattle.quoting.specs.declared.steps.Step.{Step}
use Rattle.quoting.specs.Areas.{ends, is_into, BestWithin, LineAt}
use Rattle.quoting.specs.Places.{shown, step_at, climb_at, climb_place_at}

-- s is the step up from the piece p
abbrev pub IsStepFrom : {V : Type 0} → Areas V → ℕ → Step → Type 0
IsStepFrom a p s = s ≡ step_at (ends a) a.records.pieces.now p

module _ {V M : Type 0} (K : Kind M) (means : V → M) where
  -- the sheet of the piece p holds no rate too large to be joined
  abbrev pub SheetWithin : Areas V → ℕ → Type 0
  SheetWithin a p = Within K (sheet_of K (map means a.sheets.now) p)

  -- nor does anything else that a climb joins
  pub record CanJoin (a : Areas V) (c : Climb V) : Type 0 where
    pub own_within : SheetWithin a c.step.own.piece
    pub across_within : SheetWithin a c.step.across.piece
    pub low_small : K.size (means c.ends.low) ≤ 2 * largest
    pub high_small : K.size (means c.ends.high) ≤ 2 * largest

  -- where a climb comes to: the edge terminal t, and the edge terminal k
  abbrev pub climb_of : Areas V → Climb V → ℕ → M
  climb_of a c t = climb_at K (shown means c.line) (map means a.sheets.now) c.step (is_into c.direction) (means c.ends.low) (means c.ends.high) t

  abbrev pub climb_place_of : Areas V → Climb V → ℕ → M
  climb_place_of a c k = climb_place_at K (shown means c.line) (map means a.sheets.now) c.step (is_into c.direction) (means c.ends.low) (means c.ends.high) k

  -- what is known of u and v at the piece p: the line of u, the line into v, and the best rate between them
  pub record KnownAt (a : Areas V) (n : ℕ) (m : LaneMap M) (p u v : ℕ) (known : Known V) : Type 0 where
    pub row : LineAt K means a n m p From u known.row
    pub column : LineAt K means a n m p Into v known.column
    pub best : BestWithin K means a n m p u v known.best
