-- A row of rates from one terminal, and how relaxing lanes betters it.
-- Assumes nothing; the kind of rate is any.
use Rattle.std.specs.Prelude.{◌≡◌, ℕ, ◌+◌, ◌*◌, ◌<◌, ◌≤◌, Bool, true, false, ◌⊎◌, ◌≢◌}
use Rattle.rates.specs.Kinds.{Kind, NoWorse, exact_size}
use Rattle.rates.specs.Many.{better_of}
use Rattle.trips.specs.Trips.{LaneMap, Trip, rate, lanes}

-- the size that no lane rate of any kind exceeds
abbrev pub lane_size : ℕ
lane_size = 1000000000

-- the most lanes of a trip that relaxing joins: 64 sweeps over 64 terminals
abbrev pub most_joined : ℕ
most_joined = 4096

module _ {M : Type 0} (K : Kind M) where
  -- a member is none or the rate of some trip
  abbrev pub OfTrip : LaneMap M → ℕ → ℕ → M → Type 0
  OfTrip m u v r = (r ≡ K.none) ⊎ ((t : Trip K m u v) × (rate K t ≡ r))

  -- A row after its first n places were relaxed by the lanes out of one terminal, whose own rate is base.
  pub record Relaxed (base : M) (out old new : ℕ → M) (n : ℕ) (changed : Bool) : Type 0 where
    pub done : (w : ℕ) → w < n → K.size base + K.size (out w) ≤ exact_size → new w ≡ better_of K (old w) (K.join base (out w))
    pub rest : (w : ℕ) → n ≤ w → new w ≡ old w
    pub unchanged : changed ≡ false → (w : ℕ) → new w ≡ old w
    pub bettered : changed ≡ true → (w : ℕ) × (w < n) × (K.better (new w) (old w) ≡ true)

  -- A row of trips from u: each of its n places is none or the rate of a trip, no larger than k lanes allow.
  pub record Row (m : LaneMap M) (n u k : ℕ) (row : ℕ → M) : Type 0 where
    pub of_trips : (w : ℕ) → w < n → OfTrip m u w (row w)
    pub small : (w : ℕ) → w < n → K.size (row w) ≤ k * lane_size

  -- Such a row after the lanes out of the first j terminals were relaxed: each was used once at least.
  pub record SweptFrom (m : LaneMap M) (n u k j : ℕ) (old new : ℕ → M) (changed : Bool) : Type 0 where
    pub still_row : Row m n u (k + j) new
    pub no_worse : (w : ℕ) → w < n → NoWorse K (new w) (old w)
    pub lanes_used : (v w : ℕ) → v < j → w < n → NoWorse K (new w) (K.join (old v) (m v w))
    pub unchanged : changed ≡ false → (w : ℕ) → new w ≡ old w
    pub bettered : changed ≡ true → (w : ℕ) × (w < n) × (K.better (new w) (old w) ≡ true)

  abbrev pub Swept : LaneMap M → (n j : ℕ) → (old new : ℕ → M) → Bool → Type 0
  Swept m n j old new changed = (u k : ℕ) → k ≤ most_joined → Row m n u k old → SweptFrom m n u k j old new changed

  -- no trip from u of at most j lanes beats the row
  abbrev pub Covers : LaneMap M → (n u j : ℕ) → (ℕ → M) → Type 0
  Covers m n u j row = (w : ℕ) → w < n → (t : Trip K m u w) → lanes K t ≤ j → NoWorse K (row w) (rate K t)

  -- A row from u after k sweeps at least, or after one that changed nothing.
  pub record Found (m : LaneMap M) (n u k : ℕ) (row : ℕ → M) : Type 0 where
    pub row_of_trips : Row m n u (64 * k) row
    pub covers : Covers m n u k row

  -- the row to begin with: still at u, elsewhere none
  pub record Start (n u : ℕ) (row : ℕ → M) : Type 0 where
    pub staying : row u ≡ K.still
    pub elsewhere : (w : ℕ) → w < n → (w ≢ u) → row w ≡ K.none

  -- from such a row, k sweeps make it cover the trips of k lanes
  abbrev pub Settles : LaneMap M → (n k : ℕ) → (old new : ℕ → M) → Type 0
  Settles m n k old new = (u : ℕ) → u < n → Start n u old → Found m n u k new

  -- the rows of the first k terminals of a table, each after n sweeps
  abbrev pub RowsFound : LaneMap M → (n k : ℕ) → (ℕ → ℕ → M) → Type 0
  RowsFound m n k rows = (u : ℕ) → u < k → Found m n u n (rows u)

  -- the rate from some of the first k terminals back to it is better than still
  abbrev pub SomeLoopBetter : ℕ → (ℕ → ℕ → M) → Type 0
  SomeLoopBetter k rows = (u : ℕ) × (u < k) × (K.better (rows u u) K.still ≡ true)
