-- Where no closed trip earns and there are finitely many terminals, there is a best rate between any two,
-- a trip without a terminal twice has it, and its size is bounded.
-- Assumes the laws of the kind.
use Rattle.std.proofs.Common.{◌≡◌, ℕ, zero, suc, ◌-◌, ◌*◌, ◌<◌, ◌≤◌, cond, eqb, length, sym, refl, ap, ◌∙◌, subst, inl, inr, ⊎_elim, mul-le-mul_right, add-mul, one-mul, arith}
use Rattle.std.specs.List.{AllByRecursion}
use Rattle.std.proofs.lemmas.Bool.{eqb-true, eq-eqb, cond_both, cond-true, cases_order}
use Rattle.rates.specs.Kinds.{Kind, Laws, NoWorse}
use Rattle.rates.specs.Many.{better_of}
use Rattle.rates.specs.Order.{le_from, le_trans, same, none_or_stands, none_stands_not, join_right, better_of_first, better_of_second}
use Rattle.trips.specs.Trips.{LaneMap, Trip, rate, lanes, stops, NoEarning, Over, NoneTwice}
use Rattle.trips.specs.Trips.Trip.{stay, go}
use Rattle.trips.proofs.Walks.{Reached, Best, reached_stay, reached_join, reached_better}
use Rattle.trips.proofs.LoopRemoval.{shorten}
use Rattle.trips.proofs.Pigeonhole.{pigeonhole}

module _ {M : Type 0} (K : Kind M) (X : Laws K) where
  stops_below : {m : LaneMap M} (n : ℕ) → Over K n m → {u v : ℕ} → u < n → (t : Trip K m u v) → AllByRecursion (λ x. x < n) (stops K t)
  unfolding stops
  stops_below n o l stay = (l, tt)
  stops_below n o {u} l (go w s t) = (l, stops_below n o (o u w s).1 t)

  length_stops : {m : LaneMap M} {u v : ℕ} (t : Trip K m u v) → length (stops K t) ≡ suc (lanes K t)
  unfolding stops lanes
  length_stops stay = refl
  length_stops (go w s t) = omega (arith, length_stops t)

  -- a trip without a terminal twice, over terminals below n, has at most n - 1 lanes
  pub few_lanes : {m : LaneMap M} (n : ℕ) → Over K n m → {u v : ℕ} (t : Trip K m u v) → NoneTwice (stops K t) → lanes K t ≤ n - 1
  unfolding lanes
  few_lanes n o stay h = omega arith
  few_lanes n o {u} (go w s t) h =
      omega (arith, pigeonhole n (stops K (go w s t)) h (stops_below n o (o u w s).0 (go w s t)), length_stops (go w s t))

  -- a trip's rate is at most as large as its lanes allow
  pub rate_size : {m : LaneMap M} (L : ℕ) → ((u v : ℕ) → K.size (m u v) ≤ L) → {u v : ℕ} (t : Trip K m u v) → K.size (rate K t) ≤ lanes K t * L
  unfolding rate lanes
  rate_size L h stay = omega (arith, X.still_size)
  rate_size {m} L h {u} (go w s t) =
      omega (arith, X.join_size (m u w) (rate K t), h u w, rate_size L h t, add-mul 1 (lanes K t) L, one-mul L)

  -- the best of f over the numbers below n
  abbrev over : ℕ → (ℕ → M) → M
  over zero f = K.none
  over (suc n) f = better_of K (over n f) (f n)

  over_no_worse : (n : ℕ) (f : ℕ → M) (w : ℕ) → w < n → NoWorse K (over n f) (f w)
  over_no_worse zero f w l = absurd (omega arith)
  over_no_worse (suc n) f w l =
      ⊎_elim (λ e. subst (λ x. NoWorse K (over (suc n) f) (f x)) (sym e) (better_of_second K X (over n f) (f n)))
      (⊎_elim (λ h. le_trans K X (better_of_first K X (over n f) (f n)) (over_no_worse n f w h)) (λ h. absurd (omega arith)))
      (cases_order w n)

  over_reached : {m : LaneMap M} {u v : ℕ} (n : ℕ) (f : ℕ → M) → ((w : ℕ) → Reached K X m u v (f w)) → Reached K X m u v (over n f)
  over_reached zero f h = inl refl
  over_reached (suc n) f h = reached_better K X (over_reached n f h) (h n)

  -- the best rate of the trips of at most k lanes over terminals below n
  abbrev pub within : LaneMap M → ℕ → ℕ → ℕ → ℕ → M
  within m n zero u v = cond (eqb u v) K.still K.none
  within m n (suc k) u v = better_of K (within m n k u v) (over n (λ w. K.join (m u w) (within m n k w v)))

  pub lane_reached : (m : LaneMap M) (u w : ℕ) → Reached K X m u w (m u w)
  unfolding rate
  lane_reached m u w =
      ⊎_elim inl (λ s. inr (go w (none_stands_not K X s) stay, X.join_commutative (m u w) K.still ∙ X.still_joins_to_same (m u w)))
      (none_or_stands K X (m u w))

  pub within_reached : (m : LaneMap M) (n k u v : ℕ) → Reached K X m u v (within m n k u v)
  within_reached m n zero u v =
      cond_both (eqb u v) K.still K.none (Reached K X m u v)
      (λ e. subst (λ x. Reached K X m u x K.still) (eqb-true u v e) (reached_stay K X)) (λ e. inl refl)
  within_reached m n (suc k) u v =
      reached_better K X (within_reached m n k u v)
      (over_reached n (λ w. K.join (m u w) (within m n k w v)) (λ w. reached_join K X (lane_reached m u w) (within_reached m n k w v)))

  within_still : (m : LaneMap M) (n k u : ℕ) → NoWorse K (within m n k u u) K.still
  within_still m n zero u = le_from K X (within m n zero u u) K.still (cond-true (eqb u u) K.still K.none (eq-eqb u u refl))
  within_still m n (suc k) u =
      le_trans K X (better_of_first K X (within m n k u u) (over n (λ w. K.join (m u w) (within m n k w u)))) (within_still m n k u)

  within_unbeaten : {m : LaneMap M} (n : ℕ) → Over K n m → (k : ℕ) {u v : ℕ} (t : Trip K m u v) → lanes K t ≤ k → NoWorse K (within m n k u v) (rate K t)
  unfolding rate lanes
  within_unbeaten {m} n o k {u} stay l = within_still m n k u
  within_unbeaten {m} n o zero (go w s t) l = absurd (omega arith)
  within_unbeaten {m} n o (suc k) {u} {v} (go w s t) l =
      le_trans K X (better_of_second K X (within m n k u v) (over n (λ x. K.join (m u x) (within m n k x v))))
      (le_trans K X (over_no_worse n (λ x. K.join (m u x) (within m n k x v)) w (o u w s).1)
      (join_right K X (m u w) (within_unbeaten n o k t (omega arith))))

  -- the best rate of the trips of at most n - 1 lanes is the best of all
  pub best_exists : {m : LaneMap M} (n : ℕ) → Over K n m → NoEarning K m → (u v : ℕ) → (r : M) × Best K X m u v r
  best_exists {m} n o ne u v = (
    within m n (n - 1) u v,
    record {
      reached = within_reached m n (n - 1) u v;
      unbeaten = λ t.
          let s = shorten K X ne t in
          le_trans K X (within_unbeaten n o (n - 1) s.trip (few_lanes n o s.trip s.none_twice)) s.no_worse;
    },
  )

  -- a trip without a terminal twice that has the best rate
  pub simple_best : {m : LaneMap M} → NoEarning K m → {u v : ℕ} {r : M} → Best K X m u v r → (t : Trip K m u v) → rate K t ≡ r → (s : Trip K m u v) × NoneTwice (stops K s) × (rate K s ≡ r)
  simple_best ne {r = r} b t e =
      let s = shorten K X ne t in
      (s.trip, s.none_twice, same K X (subst (NoWorse K (rate K s.trip)) e s.no_worse) (b.unbeaten s.trip))

  pub best_size : {m : LaneMap M} (n L : ℕ) → Over K n m → ((u v : ℕ) → K.size (m u v) ≤ L) → NoEarning K m → {u v : ℕ} {r : M} → Best K X m u v r → K.size r ≤ (n - 1) * L
  best_size {m} n L o h ne {u} {v} {r} b =
      ⊎_elim
      (λ e. omega (arith, ap K.size e, X.none_size))
      (λ t.
      let s = simple_best ne b t.0 t.1 in
      omega (arith, ap K.size s.2, rate_size L h s.0, mul-le-mul_right L (few_lanes n o s.0 s.1)))
      b.reached
