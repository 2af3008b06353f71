-- From rows that cover the trips of at most n lanes: whether a closed trip earns, and the best rates.
-- Assumes the laws of the kind.
use Rattle.std.proofs.Common.{◌≡◌, ℕ, ◌+◌, ◌<◌, ◌≤◌, Bool, true, false, ◌⊎◌, List, Decides, sym, refl, ap, ◌∙◌, subst, inl, inr, ⊎_elim, arith}
use Rattle.std.proofs.lemmas.Bool.{cases_Bool, both_ways}
use Rattle.rates.specs.Kinds.{Kind, Laws, NoWorse, exact_size}
use Rattle.rates.specs.Order.{le_from, le_none, le_trans, le_or_better, not_both}
use Rattle.trips.specs.Trips.{LaneMap, Trip, rate, lanes, Earning, NoEarning, BestRate, Over, changed}
use Rattle.trips.specs.Trips.Trip.{stay, go}
use Rattle.trips.proofs.Walks.{rate_of_best, best_of_rate}
use Rattle.trips.proofs.LoopRemoval.{shorten}
use Rattle.trips.proofs.BestExists.{few_lanes, best_size}
use Rattle.trips.proofs.ShortLoops.{short_loops_enough}
use Rattle.trips.proofs.Shown.{earning_tested}
use Rattle.slow.specs.Areas.{entry, lane_map, LaneArea, BestTable, Settled}
use Rattle.slow.specs.Rows.{lane_size, OfTrip, Found, RowsFound, SomeLoopBetter}
use Rattle.slow.proofs.LaneMaps.{lanes_below, lanes_small}

module _ {M : Type 0} (K : Kind M) (X : Laws K) (m : LaneMap M) (n : ℕ) where
  some_lane_or_still : {u v : ℕ} (t : Trip K m u v) → ((0 < lanes K t) × ((Over K n m) → u < n)) ⊎ (rate K t ≡ K.still)
  unfolding rate lanes
  some_lane_or_still stay = inr refl
  some_lane_or_still {u} (go w s t) = inl (omega arith, λ o. (o u w s).0)

  -- a rate of a closed trip that is better than still is that of a trip with a lane
  pub earns_at : (u : ℕ) (r : M) → OfTrip K m u u r → K.better r K.still ≡ true → Earning K m
  earns_at u r (inl z) e = absurd (not_both K X e (subst (NoWorse K K.still) (sym z) (le_none K X K.still)))
  earns_at u r (inr (t, z)) e =
      let better : K.better (rate K t) K.still ≡ true = ap (λ x. K.better x K.still) z ∙ e in
      record {
        at = u;
        trip = t;
        some_lane = ⊎_elim (λ h. h.0) (λ s. absurd (not_both K X better (le_from K X K.still (rate K t) (sym s)))) (some_lane_or_still t);
        earns = better;
      }

  module _ (o : Over K n m) (rows : ℕ → ℕ → M) (found : (u : ℕ) → u < n → Found K m n u n (rows u)) where
    pub none_earns : ((u : ℕ) → u < n → NoWorse K K.still (rows u u)) → NoEarning K m
    none_earns h =
        short_loops_enough K X m n o
        (λ u t l. ⊎_elim
        (λ some. let p = some.1 o in le_trans K X (h u p) ((found u p).covers u p t l))
        (λ s. le_from K X K.still (rate K t) (sym s))
        (some_lane_or_still t))

    -- where no closed trip earns, a trip of fewer than n lanes is no worse than any
    pub rows_best : NoEarning K m → (u v : ℕ) → u < n → v < n → BestRate K m u v (rows u v)
    rows_best ne u v l k =
        rate_of_best K X (record {
          reached = (found u l).row_of_trips.of_trips v k;
          unbeaten = λ t.
              let s = shorten K X ne t in
              le_trans K X ((found u l).covers v k s.trip (omega (arith, few_lanes K X n o s.trip s.none_twice))) s.no_worse;
        })

module _ {M : Type 0} (K : Kind M) (X : Laws K) (n : ℕ) (area table : List M) where
  -- what the filled table and its loops tell of the network
  pub settled : LaneArea K n area → RowsFound K (lane_map K n area) n n (entry K n table) → (earns : Bool) → Decides earns (SomeLoopBetter K n (entry K n table)) → Settled K n area table earns
  settled h found earns d = record {
    area_shows = h;
    earning = (
      λ e. let s = d.0 e in earns_at K X m n s.0 (entry K n table s.0 s.0) ((found s.0 s.1).row_of_trips.of_trips s.0 s.1) s.2,
      λ e. ⊎_elim (λ z. z) (λ z. absurd (none_earns K X m n o (entry K n table) found (no_loop z) e)) (cases_Bool earns),
    );
    best = rows_best K X m n o (entry K n table) found;
  }
    where
      m : LaneMap M
      m = lane_map K n area

      o : Over K n m
      o = lanes_below K X n area

      no_loop : earns ≡ false → (u : ℕ) → u < n → NoWorse K K.still (entry K n table u u)
      no_loop z u l =
          ⊎_elim (λ k. k) (λ e. absurd (both_ways earns z (d.1 (u, l, e)))) (le_or_better K X K.still (entry K n table u u))

  -- the rate of a lane joined with the best way back is exact, and the theorem on one changed lane decides
  pub tested : (from to : ℕ) → from < n → to < n → (rate joined still : M) → still ≡ K.still → K.lane rate ≡ true → (K.size rate + K.size (entry K n table to from) ≤ exact_size → joined ≡ K.join rate (entry K n table to from)) → (earns : Bool) → earns ≡ K.better joined still → LaneArea K n area → NoEarning K (lane_map K n area) → BestTable K n (lane_map K n area) table → Decides earns (Earning K (changed K (lane_map K n area) from to rate))
  tested from to l k rate joined still s lane exact earns e h ne best =
      let q = entry K n table to from in
      let test = earning_tested K X (lane_map K n area) ne from to rate q lane (best to from k l) in
      let small = best_size K X n lane_size (lanes_below K X n area) (lanes_small K X n area h) ne (best_of_rate K X (best to from k l)) in
      let is = exact (omega (arith, small, X.lane_rate_size rate lane, X.limit_bounded, h.few.not_too_many)) in
      let better : earns ≡ K.better (K.join rate q) K.still = e ∙ ap (K.better joined) s ∙ ap (λ x. K.better x K.still) is in
      (λ z. test.1 (sym better ∙ z), λ z. better ∙ test.0 z)
