-- When an offered trip has a price, and which.
-- Assumes nothing.
use Rattle.std.specs.Prelude.{◌≡◌, ℕ, ◌+◌, ◌++◌, min, codes, decimal, ◌<◌, ◌≤◌, true, false, List, length, Some, None, Ok, Err, Option, Result, slice_index_or}
use Rattle.rates.specs.Kinds.{Kind}
use Rattle.rates.specs.Many.{joined_all}
use Rattle.offers.specs.declared.offer.Refusal.{Refusal}
use Rattle.offers.specs.declared.offer.Refusal.TheVariants.{Empty, TooMany, NoLaneRate}

-- the most lanes of an offered trip
abbrev pub most_lanes : ℕ
most_lanes = 4095

-- what is said of a refusal; a lane is named by its number from 1
abbrev pub refusal_text : Refusal → List ℕ
refusal_text Empty = codes "no lanes: a trip has one at least"
refusal_text TooMany = codes "too many lanes: a trip has 4095 at most"
refusal_text (NoLaneRate k) = codes "no lane rate of this kind at lane " ++ decimal (min (k + 1) 18446744073709551615)

module _ {M : Type 0} (K : Kind M) where
  -- the first n places of a list hold lane rates
  abbrev pub LaneRates : List M → ℕ → Type 0
  LaneRates lanes n = (k : ℕ) → k < n → K.lane (slice_index_or lanes k K.none) ≡ true

  -- k is the first place that holds no lane rate
  pub record FirstNoLane (lanes : List M) (k : ℕ) : Type 0 where
    pub within : k < length lanes
    pub no_lane_rate : K.lane (slice_index_or lanes k K.none) ≡ false
    pub before : LaneRates lanes k

  -- what a search for such a place finds
  abbrev pub Found : List M → Option ℕ → Type 0
  Found lanes None = LaneRates lanes (length lanes)
  Found lanes (Some k) = FirstNoLane lanes k

  -- a trip of one lane or more, not too many, whose rates are all lane rates
  pub record Offer (lanes : List M) : Type 0 where
    pub some : 0 < length lanes
    pub not_too_many : length lanes ≤ most_lanes
    pub lane_rates : LaneRates lanes (length lanes)

  -- an offer's price is its lanes' rates joined; else the first listed reason why there is none
  abbrev pub Priced : {V : Type 0} → (V → M) → List M → Result V Refusal → Type 0
  Priced means lanes (Ok r) = Offer lanes × (means r ≡ joined_all K lanes)
  Priced means lanes (Err Empty) = length lanes ≡ 0
  Priced means lanes (Err TooMany) = most_lanes < length lanes
  Priced means lanes (Err (NoLaneRate k)) = (0 < length lanes) × (length lanes ≤ most_lanes) × FirstNoLane lanes k
