-- Lines: the best rates between one terminal and the edge terminals of a piece, and their climb over a seam.
-- Assumes the terms of `Climbing` and `Parents`. With `into`, a line holds the rates into the terminal, and tables are turned round.
use Rattle.std.specs.Prelude.{◌≡◌, ℕ, ◌+◌, ◌*◌, ◌<◌, ◌≤◌, Bool, true, false, cond, not, List, length, slice_index, slice_index_or}
use Rattle.rates.specs.Kinds.{Kind}
use Rattle.rates.specs.Many.{better_of}
use Rattle.trips.specs.Trips.{LaneMap, BestRate}
use Rattle.trips.specs.Climbs.{climb_own, climb_other, by_seam}
use Rattle.records.specs.declared.Piece.{Piece}
use Rattle.records.specs.Few.{listed, Among}
use Rattle.pieces.specs.Sides.{Ends}
use Rattle.piece_rates.specs.Lanes.{piece_lanes}
use Rattle.piece_rates.specs.Sheets.{SheetShows}
use Rattle.piece_rates.specs.Sizes.{Within, PlanLanes}
use Rattle.piece_rates.specs.Climbing.{place, among, Outside, table_of, seam_ends}
use Rattle.piece_rates.specs.Parents.{PartsShown}
use Rattle.piece_rates.specs.Triangles.{triangle_entry}
use Rattle.piece_rates.specs.Leaves.{leaf_lanes, LeafStands}

-- where the part c of a cut piece (true for the first) has its terminals: from x to y, or not strictly between
abbrev pub OnSide : Bool → ℕ → ℕ → ℕ → Type 0
OnSide c x y u = cond c ((x ≤ u) × (u ≤ y)) (Outside x y u)

-- a table as it is, or turned round
abbrev pub turned : {X : Type 0} → Bool → (ℕ → ℕ → X) → ℕ → ℕ → X
turned into table u v = cond into (table v u) (table u v)

module _ {M : Type 0} (K : Kind M) where
  -- the best rate from u to v; with into, from v to u
  abbrev pub BestBetween : Bool → LaneMap M → ℕ → ℕ → M → Type 0
  BestBetween into m u v r = BestRate K m (cond into v u) (cond into u v) r

  -- place k of a line holds the best rate between u and the piece's edge terminal k over its own lanes; unused places hold none
  pub record LineShows (n : ℕ) (e : Ends) (P : Piece) (m : LaneMap M) (into : Bool) (u : ℕ) (line : List M) : Type 0 where
    pub best : (k : ℕ) → k < length (listed P.edges)
        → BestBetween into (piece_lanes K n e P m) u (slice_index (listed P.edges) k) (slice_index_or line k K.none)
    pub unused : (k : ℕ) → length (listed P.edges) ≤ k → slice_index_or line k K.none ≡ K.none

  -- a line by terminals
  abbrev pub rate_to : List ℕ → List M → ℕ → M
  rate_to edges line t = slice_index_or line (place edges t) K.none

  -- a sheet by places
  abbrev pub cells : List M → ℕ → ℕ → M
  cells sheet i j = slice_index_or sheet (8 * i + j) K.none

  -- the climb of a line from a part with the edge terminals own and the sheet a, over the seam from x to y, across which there are
  -- the edge terminals across and the sheet b, to the terminal t
  abbrev pub climbed_line : Bool → List ℕ → List ℕ → List M → List M → ℕ → ℕ → (ℕ → M) → ℕ → M
  climbed_line into own across a b x y line t =
      cond (among own t)
      (climb_own K line (turned into (table_of K own a)) (turned into (table_of K across b)) (seam_ends x y) t)
      (climb_other K line (turned into (table_of K across b)) (seam_ends x y) t)

  pub record ClimbedLine (into : Bool) (up own across : List ℕ) (a b : List M) (x y : ℕ) (line line' : List M) : Type 0 where
    pub climbs : (k : ℕ) → k < length up → slice_index_or line' k K.none ≡ climbed_line into own across a b x y (rate_to own line) (slice_index up k)
    pub unused : (k : ℕ) → length up ≤ k → slice_index_or line' k K.none ≡ K.none

  -- by the seam to a terminal with the line column, which stands at the edge terminals there
  abbrev pub by_column : List ℕ → List ℕ → List ℕ → List M → ℕ → ℕ → List M → List M → ℕ → M
  by_column own across there b x y row column v =
      by_seam K (rate_to own row) (table_of K across b) (λ w _. rate_to there column w) (seam_ends x y) v

  -- a climbed line shows the best rates over both parts
  abbrev pub LinesClimb : Type 0
  LinesClimb =
      (n : ℕ) (e : Ends) (m : LaneMap M) (P A B : Piece) (x y : ℕ) (a b : List M) → PartsShown K n e m P A B x y a b
      → (c into : Bool) (u : ℕ) (line line' : List M) → OnSide c x y u → LineShows n e (cond c A B) m into u line
      → ClimbedLine into (listed P.edges) (listed (cond c A B).edges) (listed (cond c B A).edges) (cond c a b) (cond c b a) x y line line'
      → LineShows n e P m into u line'

  -- two lines on different sides of the seam give the best rate over both parts, and so do two on the same side and the best rate there
  abbrev pub LinesMeet : Type 0
  LinesMeet =
      (n : ℕ) (e : Ends) (m : LaneMap M) (P A B : Piece) (x y : ℕ) (a b : List M) → PartsShown K n e m P A B x y a b
      → (c : Bool) (u v : ℕ) (row column : List M) → OnSide c x y u → LineShows n e (cond c A B) m false u row
      → (OnSide (not c) x y v → LineShows n e (cond c B A) m true v column
      → BestRate K (piece_lanes K n e P m) u v (by_column (listed (cond c A B).edges) (listed (cond c B A).edges) (listed (cond c B A).edges) (cond c b a) x y row column v))
      × (OnSide c x y v → LineShows n e (cond c A B) m true v column → (direct : M) → BestRate K (piece_lanes K n e (cond c A B) m) u v direct
      → BestRate K (piece_lanes K n e P m) u v (better_of K direct (by_column (listed (cond c A B).edges) (listed (cond c B A).edges) (listed (cond c A B).edges) (cond c b a) x y row column v)))

  -- the rows and columns of a sheet are lines
  abbrev pub SheetsHaveLines : Type 0
  SheetsHaveLines =
      (n : ℕ) (e : Ends) (P : Piece) (m : LaneMap M) (sheet : List M) → SheetShows K n e P m sheet
      → (into : Bool) (u : ℕ) (line : List M) → Among u (listed P.edges) → length (listed P.edges) ≤ 8 → length line ≤ 8
      → ((k : ℕ) → k < 8 → slice_index_or line k K.none ≡ turned into (cells sheet) (place (listed P.edges) u) k)
      → LineShows n e P m into u line

  -- the best rates within a triangle, between any two terminals, and a line of them
  pub record TriangleLine (e : Ends) (P : Piece) (area : List M) (into : Bool) (u : ℕ) (line : List M) : Type 0 where
    pub entries : (k : ℕ) → k < length (listed P.edges)
        → slice_index_or line k K.none
        ≡ turned into (triangle_entry K (e.low P.top) (e.high (P.top + 1)) (e.high P.top) (leaf_lanes K e P.top area)) u (slice_index (listed P.edges) k)
    pub unused : (k : ℕ) → length (listed P.edges) ≤ k → slice_index_or line k K.none ≡ K.none

  abbrev pub TrianglesHaveLines : Type 0
  TrianglesHaveLines =
      (n : ℕ) (e : Ends) (m : LaneMap M) (P : Piece) (area : List M) → LeafStands K n e m P area
      → ((u v : ℕ) → BestRate K (piece_lanes K n e P m) u v (triangle_entry K (e.low P.top) (e.high (P.top + 1)) (e.high P.top) (leaf_lanes K e P.top area) u v))
      × ((into : Bool) (u : ℕ) (line : List M) → TriangleLine e P area into u line → LineShows n e P m into u line)

  -- no rate of a line is too large to be joined exactly
  abbrev pub LinesAreWithin : Type 0
  LinesAreWithin =
      (n : ℕ) (e : Ends) (P : Piece) (m : LaneMap M) (into : Bool) (u : ℕ) (line : List M)
      → PlanLanes K n m → LineShows n e P m into u line → Within K line
