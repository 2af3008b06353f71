-- All sheets of a plan, and what becomes of them when the lanes of one side change.
-- Assumes the terms of `Sheets`, `Lanes` and `Sizes`; the sheet of the piece p has the 64 places from 64p on.
use Rattle.std.specs.Prelude.{◌≡◌, ℕ, ◌+◌, ◌*◌, ◌<◌, ◌≤◌, Bool, true, cond, ◌⊎◌, List, length, take, drop, ◌≢◌}
use Rattle.rates.specs.Kinds.{Kind}
use Rattle.trips.specs.Trips.{LaneMap, NoEarning, NoneTwice, changed}
use Rattle.ring.specs.declared.Side.{Side}
use Rattle.records.specs.declared.Piece.{Piece}
use Rattle.records.specs.Few.{Among}
use Rattle.pieces.specs.Sides.{Ends, ends_of, span, Filled}
use Rattle.pieces.specs.Holding.{piece_at}
use Rattle.pieces.specs.Division.{Division, LeavesMarked}
use Rattle.pieces.specs.Holders.{way_up}
use Rattle.piece_rates.specs.Lanes.{RunsAlong, HoldsLane, LanesShown}
use Rattle.piece_rates.specs.Sheets.{SheetShows, sheet_of}
use Rattle.piece_rates.specs.Sizes.{PlanLanes}

-- the lane along the side i runs from its low end to its high end, or back
abbrev pub lane_from : Ends → ℕ → Bool → ℕ
lane_from e i back = cond back (e.high i) (e.low i)

abbrev pub lane_to : Ends → ℕ → Bool → ℕ
lane_to e i back = cond back (e.low i) (e.high i)

-- its place in the lane area
abbrev pub lane_place : ℕ → Bool → ℕ
lane_place i back = cond back (2 * i + 1) (2 * i)

-- ws lists the pieces that hold the lane from u to v, each once
pub record HeldBy (n : ℕ) (e : Ends) (ps : List Piece) (u v : ℕ) (ws : List ℕ) : Type 0 where
  pub all : (p : ℕ) → p + 5 < 2 * n → HoldsLane n e (piece_at ps p) u v → Among p ws
  pub only : (p : ℕ) → Among p ws → (p + 5 < 2 * n) × HoldsLane n e (piece_at ps p) u v
  pub none_twice : NoneTwice ws
  pub at_most : length ws ≤ 41

module _ {M : Type 0} (K : Kind M) where
  -- The records are a division of a filled ring of n terminals, whose sides name their leaf pieces; the lane area shows the
  -- lanes of the plan; there is room for all sheets.
  pub record PlanStands (n : ℕ) (m : LaneMap M) (sides : List Side) (ps : List Piece) (area sheets : List M) : Type 0 where
    pub lanes : PlanLanes K n m
    pub filled : Filled n (ends_of sides)
    pub division : Division n (ends_of sides) ps
    pub marked : LeavesMarked n sides (span (ends_of sides)) ps
    pub all_sides : 2 * n ≤ length sides + 3
    pub all_pieces : 2 * n ≤ length ps + 5
    pub all_sheets : 64 * (2 * n) ≤ length sheets + 320
    pub shown : LanesShown K n (ends_of sides) area m

  -- the sheet of the piece p shows its best rates
  abbrev pub PieceShown : ℕ → Ends → List Piece → LaneMap M → List M → ℕ → Type 0
  PieceShown n e ps m sheets p = SheetShows K n e (piece_at ps p) m (sheet_of K sheets p)

  -- every sheet shows its piece's best rates
  abbrev pub AllShown : ℕ → Ends → List Piece → LaneMap M → List M → Type 0
  AllShown n e ps m sheets = (p : ℕ) → p + 5 < 2 * n → PieceShown n e ps m sheets p

  -- A plan is in order: its records and lanes stand, there is room for all lanes, and every sheet shows its piece's best rates.
  pub record InOrder (n : ℕ) (m : LaneMap M) (sides : List Side) (ps : List Piece) (area sheets : List M) : Type 0 where
    pub stands : PlanStands n m sides ps area sheets
    pub all_lanes : 4 * n ≤ length area + 6
    pub all_shown : AllShown n (ends_of sides) ps m sheets

  -- the sheets of the two parts of the piece p, if it is cut, show their best rates
  abbrev pub PartsRight : ℕ → Ends → List Piece → LaneMap M → List M → ℕ → Type 0
  PartsRight n e ps m sheets p =
      ((piece_at ps p).first ≢ 0) → PieceShown n e ps m sheets (piece_at ps p).first × PieceShown n e ps m sheets (piece_at ps p).second

  -- every sheet is right but those of p and of the f - 1 pieces above it
  abbrev pub OffWayShown : ℕ → Ends → List Piece → LaneMap M → List M → ℕ → ℕ → Type 0
  OffWayShown n e ps m sheets f p = (q : ℕ) → q + 5 < 2 * n → (Among q (way_up ps f p) → ⊥) → PieceShown n e ps m sheets q

  -- two lane maps have the same lanes but those along the side i
  abbrev pub SameBut : Ends → ℕ → LaneMap M → LaneMap M → Type 0
  SameBut e i m m' = (u v : ℕ) → (RunsAlong e i u v → ⊥) → m u v ≡ m' u v

-- only the sheet of the piece p is written
pub record OnlySheet {X : Type 0} (p : ℕ) (before after : List X) : Type 0 where
  pub earlier : take (64 * p) after ≡ take (64 * p) before
  pub later : drop (64 * p + 64) after ≡ drop (64 * p + 64) before

module _ {M : Type 0} (K : Kind M) where
  -- a lane along a side may be given this rate: a lane rate, or none, which shuts it; and then no closed trip earns
  pub record MayChange (n : ℕ) (e : Ends) (m : LaneMap M) (i : ℕ) (back : Bool) (r : M) : Type 0 where
    pub side_in_range : i + 3 < 2 * n
    pub lane_rate : (K.lane r ≡ true) ⊎ (r ≡ K.none)
    pub no_earning : NoEarning K (changed K m (lane_from e i back) (lane_to e i back) r)

  -- After the lane along the side i changed to the rate r: the plan is in order with the changed lane map; as many sheets were
  -- rewritten as pieces hold the lane; the other sheets are as they were.
  pub record LaneChanged (n : ℕ) (m : LaneMap M) (sides : List Side) (ps : List Piece) (i : ℕ) (back : Bool) (r : M) (area' sheets sheets' : List M) (count : ℕ) : Type 0 where
    pub in_order : InOrder K n (changed K m (lane_from (ends_of sides) i back) (lane_to (ends_of sides) i back) r) sides ps area' sheets'
    pub holders : (ws : List ℕ) × (HeldBy n (ends_of sides) ps (lane_from (ends_of sides) i back) (lane_to (ends_of sides) i back) ws × (count ≡ length ws))
    pub few : count ≤ 41
    pub others_kept : (q : ℕ) → (HoldsLane n (ends_of sides) (piece_at ps q) (lane_from (ends_of sides) i back) (lane_to (ends_of sides) i back) → ⊥) → sheet_of K sheets' q ≡ sheet_of K sheets q
