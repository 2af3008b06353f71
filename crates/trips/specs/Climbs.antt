-- Two parts of a network that meet in two terminals, and the climb from best rates within them to best rates over both.
-- Assumes nothing; the theorems name their premises.
use Rattle.std.specs.Prelude.{◌≡◌, ℕ, Bool, true, false, not}
use Rattle.rates.specs.Kinds.{Kind}
use Rattle.rates.specs.Many.{better_of}
use Rattle.trips.specs.Trips.{LaneMap, Standing, NoEarning, BestRate}

module _ {M : Type 0} (K : Kind M) where
  -- The lanes of a network lie in two parts, named by a Bool, each over a set of terminals of its own.
  -- The parts meet in the two ends of a seam (a separation pair), numbered by a Bool too, and in no other terminal.
  pub record Meeting (m : LaneMap M) (part : Bool → LaneMap M) (terminals : Bool → ℕ → Bool) (seam : Bool → ℕ) : Type 0 where
    pub part_in_whole : (c : Bool) (u v : ℕ) → Standing K (part c) u v → part c u v ≡ m u v
    pub whole_in_parts : (u v : ℕ) → Standing K m u v → (c : Bool) × (part c u v ≡ m u v)
    pub lane_from : (c : Bool) (u v : ℕ) → Standing K (part c) u v → terminals c u ≡ true
    pub lane_to : (c : Bool) (u v : ℕ) → Standing K (part c) u v → terminals c v ≡ true
    pub seam_in_parts : (c i : Bool) → terminals c (seam i) ≡ true
    pub only_seam_shared : (u : ℕ) → terminals true u ≡ true → terminals false u ≡ true → (i : Bool) × (u ≡ seam i)

  -- A table of rates by first and last terminal, and a row of rates by last terminal.
  abbrev pub Table : Type 0
  Table = ℕ → ℕ → M

  -- From a row within a part, to an end of the seam over both parts:
  -- straight, or to the other end and then through the other part.
  abbrev pub to_seam : (ℕ → M) → Table → (Bool → ℕ) → Bool → M
  to_seam row other seam i = better_of K (row (seam i)) (K.join (row (seam (not i))) (other (seam (not i)) (seam i)))

  -- by either end of the seam and then through a part
  abbrev pub by_seam : (ℕ → M) → Table → Table → (Bool → ℕ) → ℕ → M
  by_seam row other last seam e =
      better_of K (K.join (to_seam row other seam true) (last (seam true) e)) (K.join (to_seam row other seam false) (last (seam false) e))

  -- The climb: to a terminal of the row's own part, and to one of the other part.
  abbrev pub climb_own : (ℕ → M) → Table → Table → (Bool → ℕ) → ℕ → M
  climb_own row own other seam e = better_of K (row e) (by_seam row other own seam e)

  abbrev pub climb_other : (ℕ → M) → Table → (Bool → ℕ) → ℕ → M
  climb_other row other seam e = by_seam row other other seam e

  -- A row shows the best rates from a terminal to the chosen ones, a column those from the chosen ones to a terminal,
  -- a table those between chosen ones.
  abbrev pub RowShows : LaneMap M → ℕ → (ℕ → Bool) → (ℕ → M) → Type 0
  RowShows m s chosen row = (e : ℕ) → chosen e ≡ true → BestRate K m s e (row e)

  abbrev pub ColumnShows : LaneMap M → ℕ → (ℕ → Bool) → (ℕ → M) → Type 0
  ColumnShows m t chosen column = (e : ℕ) → chosen e ≡ true → BestRate K m e t (column e)

  abbrev pub TableShows : LaneMap M → (ℕ → Bool) → Table → Type 0
  TableShows m chosen table = (u e : ℕ) → chosen u ≡ true → chosen e ≡ true → BestRate K m u e (table u e)

  -- Two parts that meet, chosen terminals of each, the seam's ends among them, and tables that show them; no closed trip earns.
  pub record Known (m : LaneMap M) (part : Bool → LaneMap M) (terminals chosen : Bool → ℕ → Bool) (seam : Bool → ℕ) (table : Bool → Table) : Type 0 where
    pub meeting : Meeting m part terminals seam
    pub no_earning : NoEarning K m
    pub chosen_inside : (c : Bool) (u : ℕ) → chosen c u ≡ true → terminals c u ≡ true
    pub seam_chosen : (c i : Bool) → chosen c (seam i) ≡ true
    pub tables : (c : Bool) → TableShows (part c) (chosen c) (table c)

  module _ (m : LaneMap M) (part : Bool → LaneMap M) (terminals chosen : Bool → ℕ → Bool) (seam : Bool → ℕ) (table : Bool → Table) where
    -- rows: from s in the part b
    pub record RowClimbs (b : Bool) (s : ℕ) (row : ℕ → M) : Type 0 where
      pub own_part : RowShows m s (chosen b) (climb_own row (table b) (table (not b)) seam)
      pub other_part : RowShows m s (chosen (not b)) (climb_other row (table (not b)) seam)

    -- columns: into t in the part b, over the tables turned round
    pub record ColumnClimbs (b : Bool) (t : ℕ) (column : ℕ → M) : Type 0 where
      pub own_part : ColumnShows m t (chosen b) (climb_own column (λ u e. table b e u) (λ u e. table (not b) e u) seam)
      pub other_part : ColumnShows m t (chosen (not b)) (climb_other column (λ u e. table (not b) e u) seam)

    -- two terminals: in different parts, and in the same one, where direct is the best rate within it
    pub record RatesMeet (b : Bool) (s : ℕ) (row : ℕ → M) : Type 0 where
      pub different_parts : (t : ℕ) (column : ℕ → M) → terminals (not b) t ≡ true → ColumnShows (part (not b)) t (chosen (not b)) column
          → BestRate K m s t (by_seam row (table (not b)) (λ u _. column u) seam t)
      pub same_part : (t : ℕ) (column : ℕ → M) (direct : M) → terminals b t ≡ true → ColumnShows (part b) t (chosen b) column → BestRate K (part b) s t direct
          → BestRate K m s t (better_of K direct (by_seam row (table (not b)) (λ u _. column u) seam t))

  -- One climb gives the best rates over both parts.
  abbrev pub ClimbIsBest : Type 0
  ClimbIsBest =
      (m : LaneMap M) (part : Bool → LaneMap M) (terminals chosen : Bool → ℕ → Bool) (seam : Bool → ℕ) (table : Bool → Table)
      → Known m part terminals chosen seam table
      → (b : Bool) (s : ℕ) (row : ℕ → M) → terminals b s ≡ true → RowShows (part b) s (chosen b) row
      → RowClimbs m part terminals chosen seam table b s row

  abbrev pub MirroredClimbIsBest : Type 0
  MirroredClimbIsBest =
      (m : LaneMap M) (part : Bool → LaneMap M) (terminals chosen : Bool → ℕ → Bool) (seam : Bool → ℕ) (table : Bool → Table)
      → Known m part terminals chosen seam table
      → (b : Bool) (t : ℕ) (column : ℕ → M) → terminals b t ≡ true → ColumnShows (part b) t (chosen b) column
      → ColumnClimbs m part terminals chosen seam table b t column

  abbrev pub RowsAndColumnsMeet : Type 0
  RowsAndColumnsMeet =
      (m : LaneMap M) (part : Bool → LaneMap M) (terminals chosen : Bool → ℕ → Bool) (seam : Bool → ℕ) (table : Bool → Table)
      → Known m part terminals chosen seam table
      → (b : Bool) (s : ℕ) (row : ℕ → M) → terminals b s ≡ true → RowShows (part b) s (chosen b) row
      → RatesMeet m part terminals chosen seam table b s row
