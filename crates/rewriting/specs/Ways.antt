-- What a rewriting writes, on areas of any content: the sheets on a way up, the front of the work area, and one lane.
-- Assumes nothing; the sheet of the piece p has the 64 places from 64p on.
use Rattle.std.specs.Prelude.{◌≡◌, ℕ, ◌+◌, ◌-◌, ◌*◌, ◌<◌, ◌≤◌, Bool, List, length, take, drop, slice_index_or, slice_set}
use Rattle.ring.specs.declared.Side.{Side}
use Rattle.records.specs.declared.Piece.{Piece}
use Rattle.records.specs.Few.{Among}
use Rattle.pieces.specs.Sides.{no_side}
use Rattle.pieces.specs.Holders.{way_up}
use Rattle.piece_rates.specs.Changes.{lane_place}

-- the sheets on the way up from p were rewritten, r of them; the others, and the work area behind 64 places, are as they were
pub record WayRewritten {X : Type 0} (ps : List Piece) (p : ℕ) (sheets work : List X) (r : ℕ) (sheets' work' : List X) : Type 0 where
  pub counted : r ≡ length (way_up ps 41 p)
  pub others : (q : ℕ) → (Among q (way_up ps 41 p) → ⊥) → take 64 (drop (64 * q) sheets') ≡ take 64 (drop (64 * q) sheets)
  pub behind : drop 64 work' ≡ drop 64 work

-- the same under way: the sheets of k pieces are rewritten, and the way up from q is left
pub record UnderWay {X : Type 0} (ps : List Piece) (p k q : ℕ) (sheets work sheets' work' : List X) : Type 0 where
  pub no_higher : q ≤ p
  pub left : k + length (way_up ps (41 - k) q) ≡ length (way_up ps 41 p)
  pub on_way : (x : ℕ) → Among x (way_up ps (41 - k) q) → Among x (way_up ps 41 p)
  pub others : (x : ℕ) → (Among x (way_up ps 41 p) → ⊥) → take 64 (drop (64 * x) sheets') ≡ take 64 (drop (64 * x) sheets)
  pub behind : drop 64 work' ≡ drop 64 work

-- nothing was written
pub record Untouched {X : Type 0} (sheets work sheets' work' : List X) : Type 0 where
  pub sheets_same : sheets' ≡ sheets
  pub work_same : work' ≡ work

-- there is a sheet of the piece p, and a work area
pub record SheetRoom (sheets work p : ℕ) : Type 0 where
  pub sheet_there : 64 * p + 64 ≤ sheets
  pub work_there : 64 ≤ work

-- the leaf piece that the side i names
abbrev pub leaf_of : List Side → ℕ → ℕ
leaf_of sides i = (slice_index_or sides i no_side).leaf

-- there is the side i, its two lanes, the sheet of its leaf piece, and a work area
pub record Room (sides : List Side) (lanes sheets work i : ℕ) : Type 0 where
  pub side_there : i < length sides
  pub lanes_there : 2 * i + 1 < lanes
  pub sheet_there : 64 * leaf_of sides i + 64 ≤ sheets
  pub work_there : 64 ≤ work

-- one lane was written, and the sheets on the way up from its leaf piece
pub record LaneRewritten {X : Type 0} (sides : List Side) (ps : List Piece) (i : ℕ) (back : Bool) (rate : X) (lanes sheets work : List X) (r : ℕ) (lanes' sheets' work' : List X) : Type 0 where
  pub lane : lanes' ≡ slice_set lanes (lane_place i back) rate
  pub way : WayRewritten ps (leaf_of sides i) sheets work r sheets' work'
