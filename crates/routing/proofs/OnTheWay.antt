-- Passing the next of the stops to come leaves a trip on its way, and at its end it is a best trip.
-- Assumes the laws, and the lanes of a plan where no closed trip earns.
use Rattle.std.proofs.Common.{◌≡◌, ℕ, ◌+◌, ◌<◌, ◌≤◌, List, [], ◌∷◌, ◌++◌, length, take, sym, refl, ap, ◌∙◌, subst, arith, length-append}
use Rattle.std.specs.List.{AllByRecursion}
use Rattle.std.proofs.lemmas.List.{length-take-le, take-append-le}
use Rattle.rates.specs.Kinds.{Kind, Laws, NoWorse}
use Rattle.rates.specs.Order.{le_from, le_trans, same, join_still}
use Rattle.trips.specs.Trips.{LaneMap, Over, NoEarning, NoneTwice, BestRate, Trip, rate, stops}
use Rattle.trips.specs.Theorems.{final, Linked, rate_along}
use Rattle.trips.proofs.Walks.{best_of_rate}
use Rattle.trips.proofs.Shown.{stops_are_a_trip}
use Rattle.trips.proofs.Pigeonhole.{pigeonhole}
use Rattle.piece_rates.specs.Climbing.{place}
use Rattle.piece_rates.proofs.Places.{place_at_most}
use Rattle.stops.specs.Passing.{passing, Passed}
use Rattle.stops.proofs.Passing.{loops_are_cut}
use Rattle.routing.specs.Turns.{OnTheWay, TripWritten}

passing_length : (stops : List ℕ) (w : ℕ) → length (passing stops w) ≡ place stops w + 1
passing_length stops w = length-append (take (place stops w) stops) (w ∷ []) ∙ ap (λ k. k + 1) (length-take-le (place stops w) stops (place_at_most stops w))

module _ {M : Type 0} (K : Kind M) (X : Laws K) (n : ℕ) (m : LaneMap M) (over : Over K n m) (ne : NoEarning K m) where
  -- the stops of linked lanes are terminals
  linked_below : (u : ℕ) (list : List ℕ) → u < n → Linked K m u list → AllByRecursion (λ x. x < n) (u ∷ list)
  linked_below u [] l h = (l, tt)
  linked_below u (w ∷ list) l h = (l, linked_below w list (over u w h.0).1 h.1)

  pub pass_next : (s t : ℕ) (r : M) (w : ℕ) (rest places : List ℕ) (count : ℕ) → s < n → OnTheWay K n m s t r (w ∷ rest) places count
      → (count' : ℕ) (places' : List ℕ) → length places' ≡ length places → Passed places count w count' places' → OnTheWay K n m s t r rest places' count'
  pass_next s t r w rest places count below h count' places' same_length p =
      let stops_are = h.written in
      let k = loops_are_cut K X m ne s h.here w h.passed h.rate_so_far h.so_far h.linked_on.0 in
      let few = pigeonhole n (s ∷ k.0) k.2.none_twice (linked_below s k.0 below k.2.linked) in
      let place_is = ap (λ l. place l w) stops_are in
      let fits : place (take count places) w < length places =
      omega (arith, place_is, passing_length (s ∷ h.passed) w, ap length k.1, few, h.room) in
      let q = p.room_for_it fits in
      record {
        here = w;
        passed = k.0;
        rate_so_far = K.join h.rate_so_far (m h.here w);
        room = omega (arith, h.room, same_length);
        inside = omega (arith, p.inside, same_length);
        written = q.0 ∙ ap (λ l. passing l w) stops_are ∙ k.1;
        so_far = k.2;
        linked_on = h.linked_on.1;
        ends_there = h.ends_there;
        no_worse = subst (λ x. NoWorse K x r) (sym (X.join_associative h.rate_so_far (m h.here w) (rate_along K m w rest))) h.no_worse;
      }

  -- with nothing to come, the rate so far is no worse than a best one, so it is that
  pub arrived : (s t : ℕ) (r : M) (places : List ℕ) (count : ℕ) → OnTheWay K n m s t r [] places count → BestRate K m s t r → TripWritten K m s t r places count
  arrived s t r places count h best =
      let b = best_of_rate K X best in
      let z = h.so_far.ends_there ∙ h.ends_there in
      let w = (stops_are_a_trip K X m s).0 h.passed h.so_far.linked in
      let trip = subst (λ v. (q : Trip K m s v) × (stops K q ≡ s ∷ h.passed) × (rate K q ≡ rate_along K m s h.passed)) z (w.0, w.1.stops_are, w.1.rate_is) in
      let better = le_trans K X h.so_far.no_worse (subst (λ x. NoWorse K x r) (join_still K X h.rate_so_far) h.no_worse) in
      record {
        trip = trip.0;
        its_stops = trip.1 ∙ sym h.written;
        its_rate = same K X (subst (λ x. NoWorse K x r) (sym trip.2) better) (b.unbeaten trip.0);
        none_twice = subst NoneTwice (sym trip.1) h.so_far.none_twice;
        inside = h.inside;
      }

  -- before the first turn: s alone is written
  pub setting_out : (s t : ℕ) (r : M) (to_come places : List ℕ) → n ≤ length places → 1 ≤ length places → take 1 places ≡ s ∷ []
      → Linked K m s to_come → final s to_come ≡ t → rate_along K m s to_come ≡ r → OnTheWay K n m s t r to_come places 1
  setting_out s t r to_come places long some first linked ends rate_is = record {
    here = s;
    passed = [];
    rate_so_far = K.still;
    room = long;
    inside = some;
    written = first;
    so_far = record { linked = tt; ends_there = refl; none_twice = (tt, tt); no_worse = le_from K X K.still K.still refl };
    linked_on = linked;
    ends_there = ends;
    no_worse = le_from K X (K.join K.still (rate_along K m s to_come)) r (X.still_joins_to_same (rate_along K m s to_come) ∙ rate_is);
  }

-- a trip in the first places of an area is one in the whole area
pub written_in_front : {M : Type 0} (K : Kind M) (m : LaneMap M) (s t : ℕ) (r : M) (places rest : List ℕ) (count : ℕ) → TripWritten K m s t r places count → TripWritten K m s t r (places ++ rest) count
written_in_front K m s t r places rest count w = record {
  trip = w.trip;
  its_stops = w.its_stops ∙ sym (take-append-le count places rest w.inside);
  its_rate = w.its_rate;
  none_twice = w.none_twice;
  inside = omega (arith, w.inside, length-append places rest);
}
