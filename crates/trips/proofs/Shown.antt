-- The theorems in the words of their statements.
-- Assumes the laws of the kind.
use Rattle.std.proofs.Common.{◌≡◌, ℕ, ◌<◌, Bool, not, ◌&&◌, eqb, List, [], ◌∷◌, sym, refl, ap, subst, ⊎_elim, arith}
use Rattle.std.proofs.lemmas.Bool.{cases_Bool, cond-true, cond-false}
use Rattle.rates.specs.Kinds.{Kind, Laws, NoWorse}
use Rattle.rates.specs.Order.{same, le_none, not_both}
use Rattle.trips.specs.Trips.{LaneMap, Trip, rate, lanes, stops, BestRate, Over, Fewer, changed}
use Rattle.trips.specs.Trips.Trip.{stay, go}
use Rattle.trips.specs.Theorems.{BestRateUnique, LoopsLeftOut, FewLanesEnough, BestRateBounded, BestRateExists, SimpleTripIsBest, EarningTest, ShuttingNeverEarns, FewerLanesNoBetter, RelaxedTableIsBest, RelaxedTableEarnsNot, Linked, final, SameStops, StopsAreATrip}
use Rattle.trips.specs.Climbs.{Known, ClimbIsBest, MirroredClimbIsBest, RowsAndColumnsMeet}
use Rattle.trips.proofs.Walks.{best_of_rate, rate_of_best, best_unique, rate_stands, unbeaten_reached, trip_fewer, rate_fewer, reached_fewer, no_earning_fewer}
use Rattle.trips.proofs.LoopRemoval.{shorten}
use Rattle.trips.proofs.BestExists.{few_lanes, best_size, best_exists, simple_best}
use Rattle.trips.proofs.LaneChange.{earning_test}
use Rattle.trips.proofs.Climb.{own_best, other_best}
use Rattle.trips.proofs.Reverse.{best_turned, no_earning_turned, meeting_turned, turned}
use Rattle.trips.proofs.Tables.{relaxed_unbeaten}

module _ {M : Type 0} (K : Kind M) (X : Laws K) where
  pub best_rate_unique : BestRateUnique K
  best_rate_unique m u v r s p q = best_unique K X (best_of_rate K X p) (best_of_rate K X q)

  pub loops_left_out : LoopsLeftOut K
  loops_left_out m ne u v t = shorten K X ne t

  pub few_lanes_enough : FewLanesEnough K
  few_lanes_enough m n o u v t h = few_lanes K X n o t h

  pub best_rate_bounded : BestRateBounded K
  best_rate_bounded m n L o h ne u v r b = best_size K X n L o h ne (best_of_rate K X b)

  pub best_rate_exists : BestRateExists K
  best_rate_exists m n o ne u v = let b = best_exists K X n o ne u v in (b.0, rate_of_best K X b.1)

  pub simple_trip_is_best : SimpleTripIsBest K
  simple_trip_is_best m n o ne u v t =
      let b = best_exists K X n o ne u v in
      ⊎_elim
      (λ e. absurd (rate_stands K X t (same K X (le_none K X (rate K t)) (subst (λ x. NoWorse K x (rate K t)) e (b.1.unbeaten t)))))
      (λ s.
      let simple = simple_best K X ne b.1 s.0 s.1 in
      (simple.0, simple.1, subst (BestRate K m u v) (sym simple.2) (rate_of_best K X b.1)))
      b.1.reached

  pub earning_tested : EarningTest K
  earning_tested m ne a b r q l best = earning_test K X m a b r ne (X.lane_rate_not_none r l) q (best_of_rate K X best)

  shut_fewer : (m : LaneMap M) (a b : ℕ) → Fewer K (changed K m a b K.none) m
  shut_fewer m a b u v s =
      ⊎_elim
      (λ e. absurd (s (cond-true (eqb u a && eqb v b) K.none (m u v) e)))
      (λ e. cond-false (eqb u a && eqb v b) K.none (m u v) e)
      (cases_Bool (eqb u a && eqb v b))

  pub shutting_never_earns : ShuttingNeverEarns K
  shutting_never_earns m ne a b = no_earning_fewer K X (shut_fewer m a b) ne

  stops_fewer : {m whole : LaneMap M} (f : Fewer K m whole) {u v : ℕ} (t : Trip K m u v) → stops K (trip_fewer K X f t) ≡ stops K t
  unfolding stops trip_fewer
  stops_fewer f stay = refl
  stops_fewer f {u} (go x s t) = ap (λ list. u ∷ list) (stops_fewer f t)

  pub fewer_lanes_no_better : FewerLanesNoBetter K
  fewer_lanes_no_better m whole f = record {
    trips_of_whole = λ u v t. (trip_fewer K X f t, rate_fewer K X f t, stops_fewer f t);
    best_no_better = λ u v r q b c. unbeaten_reached K X (best_of_rate K X c).unbeaten (reached_fewer K X f (best_of_rate K X b).reached);
    still_no_earning = no_earning_fewer K X f;
  }

  pub relaxed_table_is_best : RelaxedTableIsBest K
  relaxed_table_is_best m n table o h entries u v l k =
      rate_of_best K X (record { reached = entries u v l k; unbeaten = relaxed_unbeaten K X m n table o h u v l })

  begins_below : {m : LaneMap M} (n : ℕ) → Over K n m → {u v : ℕ} (t : Trip K m u v) → 0 < lanes K t → u < n
  unfolding lanes
  begins_below n o stay l = absurd (omega arith)
  begins_below n o {u} (go w s t) l = (o u w s).0

  pub relaxed_table_earns_not : RelaxedTableEarnsNot K
  relaxed_table_earns_not m n table o h e earning =
      let l = begins_below n o earning.trip earning.some_lane in
      let u = earning.at in
      not_both K X earning.earns (subst (λ x. NoWorse K x (rate K earning.trip)) (e u l) (relaxed_unbeaten K X m n table o h u u l earning.trip))

  pub stops_are_a_trip : StopsAreATrip K
  unfolding rate stops
  stops_are_a_trip m u = (from_list u, λ v t. to_list t)
    where
      from_list : (u : ℕ) (list : List ℕ) → Linked K m u list → (t : Trip K m u (final u list)) × SameStops K m u (final u list) list t
      from_list u [] h = (stay, record { stops_are = refl; linked = tt; ends_there = refl; rate_is = refl })
      from_list u (w ∷ list) (s, h) =
          let t = from_list w list h in (
            go w s t.0,
            record {
              stops_are = ap (λ x. u ∷ x) t.1.stops_are;
              linked = (s, h);
              ends_there = refl;
              rate_is = ap (K.join (m u w)) t.1.rate_is;
            },
          )

      to_list : {u v : ℕ} (t : Trip K m u v) → (list : List ℕ) × SameStops K m u v list t
      to_list stay = ([], record { stops_are = refl; linked = tt; ends_there = refl; rate_is = refl })
      to_list {u} (go w s t) =
          let l = to_list t in (
            w ∷ l.0,
            record {
              stops_are = ap (λ x. u ∷ x) l.1.stops_are;
              linked = (s, l.1.linked);
              ends_there = l.1.ends_there;
              rate_is = ap (K.join (m u w)) l.1.rate_is;
            },
          )

  pub climb_is_best : ClimbIsBest K
  climb_is_best m part terminals chosen seam table known b s row s_in shows = record {
    own_part = λ e c. rate_of_best K X (
        own_best K X m part terminals seam known.meeting known.no_earning b e (known.chosen_inside b e c)
        (λ c i j. table c (seam i) (seam j)) (λ c i j. best_of_rate K X (known.tables c (seam i) (seam j) (known.seam_chosen c i) (known.seam_chosen c j)))
        (λ i. table b (seam i) e) (λ i. best_of_rate K X (known.tables b (seam i) e (known.seam_chosen b i) c))
        b s s_in (λ i. row (seam i)) (λ i. best_of_rate K X (shows (seam i) (known.seam_chosen b i)))
        (row e) (best_of_rate K X (shows e c)));
    other_part = λ e c. rate_of_best K X (
        other_best K X m part terminals seam known.meeting known.no_earning (not b) e (known.chosen_inside (not b) e c)
        (λ c i j. table c (seam i) (seam j)) (λ c i j. best_of_rate K X (known.tables c (seam i) (seam j) (known.seam_chosen c i) (known.seam_chosen c j)))
        (λ i. table (not b) (seam i) e) (λ i. best_of_rate K X (known.tables (not b) (seam i) e (known.seam_chosen (not b) i) c))
        b s s_in (λ i. row (seam i)) (λ i. best_of_rate K X (shows (seam i) (known.seam_chosen b i)))
        refl);
  }

  rate_turned : (m : LaneMap M) (u v : ℕ) (r : M) → BestRate K m u v r → BestRate K (turned K X m) v u r
  rate_turned m u v r h = rate_of_best K X (best_turned K X m u v r (best_of_rate K X h))

  known_turned : (m : LaneMap M) (part : Bool → LaneMap M) (terminals chosen : Bool → ℕ → Bool) (seam : Bool → ℕ) (table : Bool → ℕ → ℕ → M) → Known K m part terminals chosen seam table → Known K (turned K X m) (λ c. turned K X (part c)) terminals chosen seam (λ c u e. table c e u)
  known_turned m part terminals chosen seam table known = record {
    meeting = meeting_turned K X m part terminals seam known.meeting;
    no_earning = no_earning_turned K X m known.no_earning;
    chosen_inside = known.chosen_inside;
    seam_chosen = known.seam_chosen;
    tables = λ c u e p q. rate_turned (part c) e u (table c e u) (known.tables c e u q p);
  }

  -- the climb over the lanes turned round
  pub mirrored_climb_is_best : MirroredClimbIsBest K
  mirrored_climb_is_best m part terminals chosen seam table known b t column t_in shows =
      let climbs = climb_is_best (turned K X m) (λ c. turned K X (part c)) terminals chosen seam (λ c u e. table c e u)
      (known_turned m part terminals chosen seam table known) b t column t_in (λ e c. rate_turned (part b) e t (column e) (shows e c)) in
      record {
        own_part = λ e c. rate_turned (turned K X m) t e _ (climbs.own_part e c);
        other_part = λ e c. rate_turned (turned K X m) t e _ (climbs.other_part e c);
      }

  pub rows_and_columns_meet : RowsAndColumnsMeet K
  rows_and_columns_meet m part terminals chosen seam table known b s row s_in shows = record {
    different_parts = λ t column t_in ends. rate_of_best K X (
        other_best K X m part terminals seam known.meeting known.no_earning (not b) t t_in
        (λ c i j. table c (seam i) (seam j)) (λ c i j. best_of_rate K X (known.tables c (seam i) (seam j) (known.seam_chosen c i) (known.seam_chosen c j)))
        (λ i. column (seam i)) (λ i. best_of_rate K X (ends (seam i) (known.seam_chosen (not b) i)))
        b s s_in (λ i. row (seam i)) (λ i. best_of_rate K X (shows (seam i) (known.seam_chosen b i)))
        refl);
    same_part = λ t column direct t_in ends best. rate_of_best K X (
        own_best K X m part terminals seam known.meeting known.no_earning b t t_in
        (λ c i j. table c (seam i) (seam j)) (λ c i j. best_of_rate K X (known.tables c (seam i) (seam j) (known.seam_chosen c i) (known.seam_chosen c j)))
        (λ i. column (seam i)) (λ i. best_of_rate K X (ends (seam i) (known.seam_chosen b i)))
        b s s_in (λ i. row (seam i)) (λ i. best_of_rate K X (shows (seam i) (known.seam_chosen b i)))
        direct (best_of_rate K X best));
  }
