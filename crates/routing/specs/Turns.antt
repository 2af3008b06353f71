-- A trip while it is unfolded: what is written of it, and what still waits.
-- Assumes the terms of `unfolding` and `stops`; n is the number of terminals, m the lanes of the plan.
use Rattle.std.specs.Prelude.{◌≡◌, ℕ, ◌*◌, ◌≤◌, List, [], ◌∷◌, length, take, ◌≢◌, map}
use Rattle.std.specs.List.{AllByRecursion}
use Rattle.rates.specs.Kinds.{Kind, NoWorse}
use Rattle.trips.specs.Trips.{LaneMap, Trip, rate, stops, NoneTwice, BestRate}
use Rattle.trips.specs.Theorems.{final, Linked, rate_along}
use Rattle.records.specs.declared.Piece.{Piece}
use Rattle.pieces.specs.Sides.{Ends}
use Rattle.pieces.specs.Holding.{piece_at}
use Rattle.unfolding.specs.Parts.{Part}
use Rattle.unfolding.specs.Splitting.{PartStands}
use Rattle.unfolding.specs.Turns.{Unfolds}
use Rattle.stops.specs.declared.Stops.{Stops}
use Rattle.stops.specs.Passing.{TripSoFar}
use Rattle.quoting.specs.declared.areas.Areas.{Areas}
use Rattle.quoting.specs.Areas.{ends}
use Rattle.routing.specs.Splits.{RatedPlan}

-- behind each part wait at most twice as many others as its piece's level
abbrev pub FewBehind : List Piece → List Part → Type 0
FewBehind ps [] = Unit {0}
FewBehind ps (q ∷ parts) = (length parts ≤ 2 * (piece_at ps q.piece).level) × FewBehind ps parts

module _ {M : Type 0} (K : Kind M) where
  -- The first `count` places hold the stops of a trip from s to some terminal; the stops to come lead on from there to t, and
  -- the two together are no worse than r.
  pub record OnTheWay (n : ℕ) (m : LaneMap M) (s t : ℕ) (r : M) (to_come places : List ℕ) (count : ℕ) : Type 0 where
    pub here : ℕ
    pub passed : List ℕ
    pub rate_so_far : M
    pub room : n ≤ length places
    pub inside : count ≤ length places
    pub written : take count places ≡ s ∷ passed
    pub so_far : TripSoFar K m s here passed rate_so_far
    pub linked_on : Linked K m here to_come
    pub ends_there : final here to_come ≡ t
    pub no_worse : NoWorse K (K.join rate_so_far (rate_along K m here to_come)) r

  -- With these parts waiting, at most `left` turns are needed, and what they unfold to leads on.
  pub record UnderWay (n : ℕ) (m : LaneMap M) (e : Ends) (ps : List Piece) (area : List M) (best : ℕ → ℕ → ℕ → M) (s t : ℕ) (r : M) (left : ℕ) (parts : List Part) (places : List ℕ) (count : ℕ) : Type 0 where
    pub to_come : List ℕ
    pub turns : ℕ
    pub unfolds : Unfolds K n e ps area best parts to_come turns
    pub enough : turns ≤ left
    pub parts_stand : AllByRecursion (PartStands K n e ps best) parts
    pub few_behind : FewBehind ps parts
    pub on_the_way : OnTheWay n m s t r to_come places count

  -- The first `count` places are the stops of a trip from s to t at the rate r that passes no terminal twice.
  pub record TripWritten (m : LaneMap M) (s t : ℕ) (r : M) (places : List ℕ) (count : ℕ) : Type 0 where
    pub trip : Trip K m s t
    pub its_stops : stops K trip ≡ take count places
    pub its_rate : rate K trip ≡ r
    pub none_twice : NoneTwice (stops K trip)
    pub inside : count ≤ length places

  -- The answer to a search for a best trip: its rate, and its stops in the first `count` places; of no trip none, and no stops.
  pub record BestTrip (m : LaneMap M) (s t : ℕ) (count : ℕ) (r : M) (places : List ℕ) : Type 0 where
    pub rate_is_best : BestRate K m s t r
    pub no_trip : r ≡ K.none → count ≡ 0
    pub trip_written : (r ≢ K.none) → TripWritten m s t r places count

-- In a plan, the trip from s to t at the rate r is under way, with these parts waiting and these stops passed.
abbrev pub TripUnderWay : {V M : Type 0} {K : Kind M} {means : V → M} {a : Areas V} → RatedPlan K means a → ℕ → ℕ → M → ℕ → List Part → Stops → Type 0
TripUnderWay {K = K} {means = means} {a = a} plan s t r left parts stops =
    UnderWay K plan.n plan.lanes (ends a) a.records.pieces.now (map means a.lanes.now) plan.best s t r left parts stops.places.now stops.count
