-- The theorems on trips and best rates, each for every kind of rate that keeps the laws.
-- Assumes nothing; each statement names its premises.
use Rattle.std.specs.Prelude.{◌≡◌, ℕ, ◌-◌, ◌*◌, ◌<◌, ◌≤◌, true, ◌⊎◌, List, [], ◌∷◌}
use Rattle.rates.specs.Kinds.{Kind, NoWorse}
use Rattle.trips.specs.Trips.{LaneMap, Standing, Trip, rate, lanes, stops, Earning, NoEarning, BestRate, Over, Fewer, changed, NoneTwice}

-- the last of the stops u and those of a list
abbrev pub final : ℕ → List ℕ → ℕ
final u [] = u
final u (w ∷ list) = final w list

module _ {M : Type 0} (K : Kind M) where
  -- there is one best rate at most
  abbrev pub BestRateUnique : Type 0
  BestRateUnique = (m : LaneMap M) (u v : ℕ) (r s : M) → BestRate K m u v r → BestRate K m u v s → r ≡ s

  -- a trip with the same ends, no terminal twice, and a rate no worse
  pub record Shortened (m : LaneMap M) (u v : ℕ) (t : Trip K m u v) : Type 0 where
    pub trip : Trip K m u v
    pub none_twice : NoneTwice (stops K trip)
    pub no_worse : NoWorse K (rate K trip) (rate K t)

  -- loops can be left out where none earns
  abbrev pub LoopsLeftOut : Type 0
  LoopsLeftOut = (m : LaneMap M) → NoEarning K m → (u v : ℕ) (t : Trip K m u v) → Shortened m u v t

  -- with a bound on their number
  abbrev pub FewLanesEnough : Type 0
  FewLanesEnough =
      (m : LaneMap M) (n : ℕ) → Over K n m → (u v : ℕ) (t : Trip K m u v) → NoneTwice (stops K t) → lanes K t ≤ n - 1

  -- so the size of a best rate is bounded by that of the lanes
  abbrev pub BestRateBounded : Type 0
  BestRateBounded =
      (m : LaneMap M) (n L : ℕ) → Over K n m → ((u v : ℕ) → K.size (m u v) ≤ L) → NoEarning K m
      → (u v : ℕ) (r : M) → BestRate K m u v r → K.size r ≤ (n - 1) * L

  -- there is a best rate; where there is a trip, one without a terminal twice has it
  abbrev pub BestRateExists : Type 0
  BestRateExists =
      (m : LaneMap M) (n : ℕ) → Over K n m → NoEarning K m → (u v : ℕ) → (r : M) × BestRate K m u v r

  abbrev pub SimpleTripIsBest : Type 0
  SimpleTripIsBest =
      (m : LaneMap M) (n : ℕ) → Over K n m → NoEarning K m → (u v : ℕ) → Trip K m u v
      → (t : Trip K m u v) × NoneTwice (stops K t) × BestRate K m u v (rate K t)

  -- After giving the lane from a to b a lane rate, some closed trip earns exactly when
  -- the rate joined with the best rate from b to a, over the lanes as they stood, is better than still.
  abbrev pub EarningTest : Type 0
  EarningTest =
      (m : LaneMap M) → NoEarning K m → (a b : ℕ) (r q : M) → K.lane r ≡ true → BestRate K m b a q
      → (Earning K (changed K m a b r) → K.better (K.join r q) K.still ≡ true)
      × (K.better (K.join r q) K.still ≡ true → Earning K (changed K m a b r))

  -- taking a lane away makes no closed trip earn
  abbrev pub ShuttingNeverEarns : Type 0
  ShuttingNeverEarns = (m : LaneMap M) → NoEarning K m → (a b : ℕ) → NoEarning K (changed K m a b K.none)

  -- fewer lanes: their trips are trips of the whole, their best rates no better, and no closed trip earns if none did
  pub record FewerLanes (m whole : LaneMap M) : Type 0 where
    pub trips_of_whole : (u v : ℕ) (t : Trip K m u v) → (s : Trip K whole u v) × (rate K s ≡ rate K t) × (stops K s ≡ stops K t)
    pub best_no_better : (u v : ℕ) (r q : M) → BestRate K m u v r → BestRate K whole u v q → NoWorse K q r
    pub still_no_earning : NoEarning K whole → NoEarning K m

  abbrev pub FewerLanesNoBetter : Type 0
  FewerLanesNoBetter = (m whole : LaneMap M) → Fewer K m whole → FewerLanes m whole

  -- A table over the terminals below n that no lane can better.
  pub record Relaxed (m : LaneMap M) (n : ℕ) (table : ℕ → ℕ → M) : Type 0 where
    pub staying_no_better : (u : ℕ) → u < n → NoWorse K (table u u) K.still
    pub lane_betters_none : (u v w : ℕ) → u < n → v < n → w < n → Standing K m v w → NoWorse K (table u w) (K.join (table u v) (m v w))

  -- If its entries are each none or some trip's rate, they are the best rates.
  abbrev pub RelaxedTableIsBest : Type 0
  RelaxedTableIsBest =
      (m : LaneMap M) (n : ℕ) (table : ℕ → ℕ → M) → Over K n m → Relaxed m n table
      → ((u v : ℕ) → u < n → v < n → (table u v ≡ K.none) ⊎ ((t : Trip K m u v) × (rate K t ≡ table u v)))
      → (u v : ℕ) → u < n → v < n → BestRate K m u v (table u v)

  -- Where its entries from a terminal to itself are still, no closed trip earns.
  abbrev pub RelaxedTableEarnsNot : Type 0
  RelaxedTableEarnsNot =
      (m : LaneMap M) (n : ℕ) (table : ℕ → ℕ → M) → Over K n m → Relaxed m n table
      → ((u : ℕ) → u < n → table u u ≡ K.still) → NoEarning K m

  -- The stops after u: each neighbour is reached by a standing lane; and their lanes' rates joined.
  abbrev pub Linked : LaneMap M → ℕ → List ℕ → Type 0
  Linked m u [] = Unit {0}
  Linked m u (w ∷ list) = Standing K m u w × Linked m w list

  abbrev pub rate_along : LaneMap M → ℕ → List ℕ → M
  rate_along m u [] = K.still
  rate_along m u (w ∷ list) = K.join (m u w) (rate_along m w list)

  -- a list of stops whose neighbours have standing lanes is a trip with the joined rate, and back
  pub record SameStops (m : LaneMap M) (u v : ℕ) (list : List ℕ) (t : Trip K m u v) : Type 0 where
    pub stops_are : stops K t ≡ u ∷ list
    pub linked : Linked m u list
    pub ends_there : final u list ≡ v
    pub rate_is : rate K t ≡ rate_along m u list

  abbrev pub StopsAreATrip : Type 0
  StopsAreATrip =
      (m : LaneMap M) (u : ℕ)
      → ((list : List ℕ) → Linked m u list → (t : Trip K m u (final u list)) × SameStops m u (final u list) list t)
      × ((v : ℕ) (t : Trip K m u v) → (list : List ℕ) × SameStops m u v list t)
