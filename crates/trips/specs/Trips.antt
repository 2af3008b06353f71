-- Lane maps, trips, and best rates.
-- Assumes nothing; the kind of rate is any.
use Rattle.std.specs.Prelude.{◌≡◌, ℕ, ◌+◌, ◌<◌, Bool, true, cond, ◌&&◌, ◌⊎◌, List, [], ◌∷◌, ◌==◌, ◌≢◌}
use Rattle.rates.specs.Kinds.{Kind, NoWorse}

-- A lane map (a directed graph with weights): a member for every ordered pair of terminals, none where no lane stands.
abbrev pub LaneMap : Type 0 → Type 0
LaneMap M = ℕ → ℕ → M

module _ {M : Type 0} (K : Kind M) where
  -- A lane (a directed edge) stands when it has a rate.
  abbrev pub Standing : LaneMap M → ℕ → ℕ → Type 0
  Standing m u v = m u v ≡ K.none → ⊥

  -- A trip (a walk): standing lanes, each starting where the one before ended. The empty trip stays put.
  pub data Trip (m : LaneMap M) : ℕ → ℕ → Type 0 where
    stay : {u : ℕ} → Trip m u u
    go : {u v : ℕ} (w : ℕ) → Standing m u w → Trip m w v → Trip m u v

  -- its lanes' rates joined; the empty trip has the rate still
  unfoldable pub rate : {m : LaneMap M} {u v : ℕ} → Trip m u v → M
  rate stay = K.still
  rate {m} {u} (go w s t) = K.join (m u w) (rate t)

  -- how many lanes it has
  unfoldable pub lanes : {m : LaneMap M} {u v : ℕ} → Trip m u v → ℕ
  lanes stay = 0
  lanes (go w s t) = 1 + lanes t

  -- the terminals that it passes, both ends included
  unfoldable pub stops : {m : LaneMap M} {u v : ℕ} → Trip m u v → List ℕ
  stops {m} {u} stay = u ∷ []
  stops {m} {u} (go w s t) = u ∷ stops t

  -- a closed trip that earns: it has a lane, ends where it began, and its rate is better than still
  pub record Earning (m : LaneMap M) : Type 0 where
    pub at : ℕ
    pub trip : Trip m at at
    pub some_lane : 0 < lanes trip
    pub earns : K.better (rate trip) K.still ≡ true

  abbrev pub NoEarning : LaneMap M → Type 0
  NoEarning m = Earning m → ⊥

  -- r is the best rate of the trips from u to v: that of one which no other beats, and of no trips none
  abbrev pub BestRate : LaneMap M → ℕ → ℕ → M → Type 0
  BestRate m u v r =
      ((Trip m u v → ⊥) × (r ≡ K.none))
      ⊎ ((t : Trip m u v) × (rate t ≡ r) × ((s : Trip m u v) → NoWorse K r (rate s)))

  -- every lane that stands joins terminals below n
  abbrev pub Over : ℕ → LaneMap M → Type 0
  Over n m = (u v : ℕ) → Standing m u v → (u < n) × (v < n)

  -- every lane that stands in the one stands in the other, at the same rate
  abbrev pub Fewer : LaneMap M → LaneMap M → Type 0
  Fewer m whole = (u v : ℕ) → Standing m u v → m u v ≡ whole u v

  -- a map restricted to a set of lanes
  abbrev pub restricted : (ℕ → ℕ → Bool) → LaneMap M → LaneMap M
  restricted held m u v = cond (held u v) (m u v) K.none

  -- a map with the lane from a to b at the rate r
  abbrev pub changed : LaneMap M → ℕ → ℕ → M → LaneMap M
  changed m a b r u v = cond (u == a && v == b) r (m u v)

-- No number stands twice in a list.
abbrev pub Absent : ℕ → List ℕ → Type 0
Absent x [] = Unit {0}
Absent x (y ∷ ys) = (x ≢ y) × Absent x ys

abbrev pub NoneTwice : List ℕ → Type 0
NoneTwice [] = Unit {0}
NoneTwice (x ∷ xs) = Absent x xs × NoneTwice xs
