-- One more terminal is passed: the stops afterwards, in the area that holds them and as a trip.
-- Assumes nothing; the statement at the end names its premises.
use Rattle.std.specs.Prelude.{◌≡◌, ℕ, ◌+◌, ◌<◌, ◌≤◌, List, [], ◌∷◌, ◌++◌, length, take, drop}
use Rattle.rates.specs.Kinds.{Kind, NoWorse}
use Rattle.trips.specs.Trips.{LaneMap, Standing, NoEarning, NoneTwice}
use Rattle.trips.specs.Theorems.{final, Linked, rate_along}
use Rattle.piece_rates.specs.Climbing.{place}

-- the stops after w is passed: w behind them, or where it stands among them, those up to it
abbrev pub passing : List ℕ → ℕ → List ℕ
passing stops w = take (place stops w) stops ++ w ∷ []

-- The first `count` places of an area hold the stops before, the first r those afterwards.
pub record Passed (before : List ℕ) (count w r : ℕ) (after : List ℕ) : Type 0 where
  pub room_for_it : place (take count before) w < length before → (take r after ≡ passing (take count before) w) × (r ≡ place (take count before) w + 1)
  pub no_room : length before ≤ place (take count before) w → (r ≡ count) × (after ≡ before)
  pub inside : r ≤ length before
  pub behind : drop r after ≡ drop r before

module _ {M : Type 0} (K : Kind M) where
  -- the stops u and those of a list are a trip to z without a terminal twice, at a rate no worse than r
  pub record TripSoFar (m : LaneMap M) (u z : ℕ) (list : List ℕ) (r : M) : Type 0 where
    pub linked : Linked K m u list
    pub ends_there : final u list ≡ z
    pub none_twice : NoneTwice (u ∷ list)
    pub no_worse : NoWorse K (rate_along K m u list) r

  -- after a lane from z to w is added
  abbrev pub LoopsAreCut : Type 0
  LoopsAreCut =
      (m : LaneMap M) → NoEarning K m → (u z w : ℕ) (list : List ℕ) (r : M) → TripSoFar m u z list r → Standing K m z w
      → (rest : List ℕ) × (passing (u ∷ list) w ≡ u ∷ rest) × TripSoFar m u w rest (K.join r (m z w))
