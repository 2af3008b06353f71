-- A parent's sheet from its children's: each entry is one climb.
-- Assumes the terms of `Sheets`.
use Rattle.std.specs.Prelude.{ℕ, zero, suc, ◌+◌, ◌*◌, ◌<◌, ◌≤◌, Bool, false, cond, not, ◌||◌, ◌⊎◌, List, [], ◌∷◌, ◌==◌, slice_index_or}
use Rattle.rates.specs.Kinds.{Kind}
use Rattle.trips.specs.Trips.{LaneMap, NoEarning, BestRate}
use Rattle.trips.specs.Climbs.{climb_own, climb_other}
use Rattle.records.specs.declared.Piece.{Piece}
use Rattle.records.specs.Few.{listed, Among}
use Rattle.pieces.specs.Sides.{Ends}
use Rattle.piece_rates.specs.Lanes.{HoldsLane, piece_lanes}
use Rattle.piece_rates.specs.Sheets.{SheetShows}

-- the place of a terminal in a list, the list's length where it is not there; and whether it is there
abbrev pub place : List ℕ → ℕ → ℕ
place [] u = zero
place (x ∷ xs) u = cond (u == x) zero (suc (place xs u))

abbrev pub among : List ℕ → ℕ → Bool
among [] u = false
among (x ∷ xs) u = u == x || among xs u

-- no terminal strictly between x and y
abbrev pub Outside : ℕ → ℕ → ℕ → Type 0
Outside x y u = (u ≤ x) ⊎ (y ≤ u)

-- A piece P is cut along a seam with the ends x < y into A, on the seam's own side, and B: how lanes and edge terminals lie.
pub record CutShape (n : ℕ) (e : Ends) (x y : ℕ) (P A B : Piece) : Type 0 where
  pub ends_differ : x < y
  pub lanes_parted : (u v : ℕ) → HoldsLane n e P u v → HoldsLane n e A u v ⊎ HoldsLane n e B u v
  pub lanes_of_first : (u v : ℕ) → HoldsLane n e A u v → HoldsLane n e P u v
  pub lanes_of_second : (u v : ℕ) → HoldsLane n e B u v → HoldsLane n e P u v
  pub first_lanes_inside : (u v : ℕ) → HoldsLane n e A u v → (x ≤ u) × (u ≤ y) × (x ≤ v) × (v ≤ y)
  pub second_lanes_outside : (u v : ℕ) → HoldsLane n e B u v → Outside x y u × Outside x y v
  pub first_edges_inside : (u : ℕ) → Among u (listed A.edges) → (x ≤ u) × (u ≤ y)
  pub second_edges_outside : (u : ℕ) → Among u (listed B.edges) → Outside x y u
  pub seam_first : Among x (listed A.edges) × Among y (listed A.edges)
  pub seam_second : Among x (listed B.edges) × Among y (listed B.edges)
  pub edges_kept : (u : ℕ) → Among u (listed P.edges) → Among u (listed A.edges) ⊎ Among u (listed B.edges)

-- the edge terminals of the two children of a piece, named by a Bool (true for the first), and the ends of the seam
abbrev pub child_edges : Piece → Piece → Bool → List ℕ
child_edges A B c = cond c (listed A.edges) (listed B.edges)

abbrev pub seam_ends : ℕ → ℕ → Bool → ℕ
seam_ends x y i = cond i x y

module _ {M : Type 0} (K : Kind M) where
  -- a sheet as a table over terminals
  abbrev pub table_of : List ℕ → List M → ℕ → ℕ → M
  table_of edges sheet u v = slice_index_or sheet (8 * place edges u + place edges v) K.none

  -- the sheets of the two children
  abbrev pub child_table : Piece → Piece → List M → List M → Bool → ℕ → ℕ → M
  child_table A B a b c = table_of (child_edges A B c) (cond c a b)

  -- the climb from s, an edge terminal of the child c, to t
  abbrev pub climbed : Piece → Piece → List M → List M → ℕ → ℕ → Bool → (ℕ → M) → ℕ → M
  climbed A B a b x y c row t =
      cond (among (child_edges A B c) t)
      (climb_own K row (child_table A B a b c) (child_table A B a b (not c)) (seam_ends x y) t)
      (climb_other K row (child_table A B a b (not c)) (seam_ends x y) t)

  -- the parent's entry from s to t: the climb of the row of s in the first child that has it
  abbrev pub parent_entry : Piece → Piece → List M → List M → ℕ → ℕ → ℕ → ℕ → M
  parent_entry A B a b x y s t =
      climbed A B a b x y (among (listed A.edges) s) (child_table A B a b (among (listed A.edges) s) s) t

  -- the best rate from s to t over the lanes of P is the climb of a row of best rates from s over the lanes of a child
  abbrev pub ClimbsToParent : Type 0
  ClimbsToParent =
      (n : ℕ) (e : Ends) (x y : ℕ) (P A B : Piece) (m : LaneMap M) (a b : List M)
      → CutShape n e x y P A B → NoEarning K (piece_lanes K n e P m) → SheetShows K n e A m a → SheetShows K n e B m b
      → (s t : ℕ) → Among s (listed P.edges) → Among t (listed P.edges)
      → BestRate K (piece_lanes K n e P m) s t (parent_entry A B a b x y s t)
