-- The answer to a search for a best trip.
-- Assumes the terms of `Turns`; m is the lanes of the plan.
use Rattle.std.specs.Prelude.{ℕ, List, Option, Some, None, ◌≢◌}
use Rattle.rates.specs.Kinds.{Kind}
use Rattle.trips.specs.Trips.{LaneMap}
use Rattle.routing.specs.declared.trip.Route.{Route}
use Rattle.routing.specs.Turns.{BestTrip}

module _ {V M : Type 0} (K : Kind M) (means : V → M) where
  -- the best trip from s to t: where there is one, its rate is not none, and the first places hold its stops
  abbrev pub Answer : LaneMap M → ℕ → ℕ → List ℕ → Option (Route V) → Type 0
  Answer m s t places None = BestTrip K m s t 0 K.none places
  Answer m s t places (Some route) = BestTrip K m s t route.stops (means route.rate) places × (means route.rate ≢ K.none)
