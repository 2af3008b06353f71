-- How large the rates of a sheet can be, and the lane maps of a plan, whose best rates keep every join exact.
-- Assumes nothing.
use Rattle.std.specs.Prelude.{◌≡◌, ℕ, ◌≤◌, true, List, slice_index_or}
use Rattle.rates.specs.Kinds.{Kind}
use Rattle.trips.specs.Trips.{LaneMap, Standing, NoEarning, Over}

-- Best rates over at most 4,096 terminals join at most 4,095 lanes of a size of at most 1,000,000,000 each.
abbrev pub largest : ℕ
largest = 4095000000000

module _ {M : Type 0} (K : Kind M) where
  -- no rate of the sheet is larger
  pub record Within (sheet : List M) : Type 0 where
    pub bounded : (k : ℕ) → K.size (slice_index_or sheet k K.none) ≤ largest

  -- the lanes of a plan of n terminals: they join its terminals, have lane rates, and no closed trip earns
  pub record PlanLanes (n : ℕ) (m : LaneMap M) : Type 0 where
    pub most_terminals : n ≤ 4096
    pub over : Over K n m
    pub lane_rates : (u v : ℕ) → Standing K m u v → K.lane (m u v) ≡ true
    pub no_earning : NoEarning K m
