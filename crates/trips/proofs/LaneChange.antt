-- When giving one lane another rate makes a closed trip earn.
-- Assumes the laws of the kind.
use Rattle.std.proofs.Common.{◌≡◌, ℕ, true, ◌&&◌, eqb, ◌⊎◌, sym, refl, ap, ◌∙◌, subst, inl, inr, ⊎_elim, arith}
use Rattle.std.proofs.lemmas.Bool.{cases_Bool, and_parts, and_from, eqb-true, eq-eqb, cond-true, cond-false}
use Rattle.rates.specs.Kinds.{Kind, Laws, NoWorse}
use Rattle.rates.specs.Order.{le_from, le_trans, le_none, le_or_better, not_both, join_none, join_right, join_left, left_commutative}
use Rattle.trips.specs.Trips.{LaneMap, Standing, Trip, rate, lanes, stops, Earning, NoEarning, changed, NoneTwice}
use Rattle.trips.specs.Trips.Trip.{stay, go}
use Rattle.trips.proofs.Walks.{append, rate_append, Best, closed_no_better, no_earning}
use Rattle.trips.proofs.LoopRemoval.{Passes, end_passed, absent_not_passed}
use Rattle.trips.proofs.BestExists.{simple_best}

module _ {M : Type 0} (K : Kind M) (X : Laws K) (m : LaneMap M) (a b : ℕ) (r : M) where
  abbrev new : LaneMap M
  new = changed K m a b r

  -- the lane from u to w is the changed one, or it is as it was
  which : (u w : ℕ) → ((u ≡ a) × (w ≡ b) × (new u w ≡ r)) ⊎ (new u w ≡ m u w)
  which u w =
      ⊎_elim
      (λ e. let p = and_parts (eqb u a) (eqb w b) e in inl (eqb-true u a p.0, eqb-true w b p.1, cond-true (eqb u a && eqb w b) r (m u w) e))
      (λ e. inr (cond-false (eqb u a && eqb w b) r (m u w) e))
      (cases_Bool (eqb u a && eqb w b))

  -- A trip over the new lanes is one over the old, or no better than an old one to a, the lane at r, and an old one from b.
  abbrev OldOrOnce : ℕ → ℕ → M → Type 0
  OldOrOnce u v s =
      ((t : Trip K m u v) × (rate K t ≡ s))
      ⊎ ((p : Trip K m u a) × (q : Trip K m b v) × NoWorse K (K.join (rate K p) (K.join r (rate K q))) s)

  module _ (ne : NoEarning K m) (q : M) (best : Best K X m b a q) (h : NoWorse K K.still (K.join r q)) where
    -- r and an old trip from b to a are no better than still
    around : (p : Trip K m b a) → NoWorse K K.still (K.join r (rate K p))
    around p = le_trans K X h (join_right K X r (best.unbeaten p))

    first_old : (u w v : ℕ) (s : Standing K m u w) (x : M) → OldOrOnce w v x → OldOrOnce u v (K.join (m u w) x)
    unfolding rate
    first_old u w v s x (inl (t, e)) = inl (go w s t, ap (K.join (m u w)) e)
    first_old u w v s x (inr (p, t, l)) =
        inr (go w s p, t, le_trans K X (le_from K X (K.join (K.join (m u w) (rate K p)) (K.join r (rate K t))) (K.join (m u w) (K.join (rate K p) (K.join r (rate K t)))) (X.join_associative (m u w) (rate K p) (K.join r (rate K t)))) (join_right K X (m u w) l))

    first_new : (v : ℕ) (x : M) → OldOrOnce b v x → OldOrOnce a v (K.join r x)
    unfolding rate
    first_new v x (inl (t, e)) =
        inr (stay, t, le_from K X (K.join K.still (K.join r (rate K t))) (K.join r x) (X.still_joins_to_same (K.join r (rate K t)) ∙ ap (K.join r) e))
    first_new v x (inr (p, t, l)) =
        inr (
          stay,
          t,
          le_trans K X (join_left K X (K.join r (rate K t)) (around p))
              (le_trans K X
              (le_from K X (K.join (K.join r (rate K p)) (K.join r (rate K t))) (K.join r (K.join (rate K p) (K.join r (rate K t))))
              (X.join_associative r (rate K p) (K.join r (rate K t))))
              (join_right K X r l)),
        )

    old_or_once : {u v : ℕ} (t : Trip K new u v) → OldOrOnce u v (rate K t)
    unfolding rate
    old_or_once stay = inl (stay, refl)
    old_or_once {u} {v} (go w s t) =
        ⊎_elim
        (λ c.
        subst (λ y. OldOrOnce y v (K.join (new u w) (rate K t))) (sym c.0)
        (subst (λ y. OldOrOnce a v (K.join y (rate K t))) (sym c.2)
        (first_new v (rate K t) (subst (λ y. OldOrOnce y v (rate K t)) c.1 (old_or_once t)))))
        (λ e.
        subst (λ y. OldOrOnce u v (K.join y (rate K t))) (sym e)
        (first_old u w v (λ z. s (e ∙ z)) (rate K t) (old_or_once t)))
        (which u w)

    -- the two old trips of a closed one, put together, lead from b to a
    closed_once : (u : ℕ) (x : M) → OldOrOnce u u x → NoWorse K K.still x
    closed_once u x (inl (t, e)) = subst (NoWorse K K.still) e (closed_no_better K X ne u t)
    closed_once u x (inr (p, t, l)) =
        le_trans K X (around (append K X t p))
        (le_trans K X
        (le_from K X (K.join r (rate K (append K X t p))) (K.join (rate K p) (K.join r (rate K t)))
        (ap (K.join r) (rate_append K X t p ∙ X.join_commutative (rate K t) (rate K p)) ∙ left_commutative K X r (rate K p) (rate K t)))
        l)

    pub stays_without_earning : NoEarning K new
    stays_without_earning = no_earning K X (λ u t. closed_once u (rate K t) (old_or_once t))

  -- a trip to a that passes no terminal twice does not use the lane from a
  keeps : {u : ℕ} (t : Trip K m u a) → NoneTwice (stops K t) → (s : Trip K new u a) × (rate K s ≡ rate K t)
  unfolding rate stops
  keeps stay h = (stay, refl)
  keeps {u} (go w s t) (ab, h) =
      let k = keeps t h in
      let as_it_was : new u w ≡ m u w = ⊎_elim (λ c. absurd (absent_not_passed K X u t ab (subst (λ y. Passes K X y t) (sym c.0) (end_passed K X t)))) (λ e. e) (which u w) in
      (go w (λ z. s (sym as_it_was ∙ z)) k.0, ap (K.join (new u w)) k.1 ∙ ap (λ y. K.join y (rate K t)) as_it_was)

  new_lane : new a b ≡ r
  new_lane = cond-true (eqb a a && eqb b b) r (m a b) (and_from (eqb a a) (eqb b b) (eq-eqb a a refl) (eq-eqb b b refl))

  pub earns_around : NoEarning K m → (r ≡ K.none → ⊥) → (q : M) → Best K X m b a q → K.better (K.join r q) K.still ≡ true → Earning K new
  unfolding rate lanes
  earns_around ne stands q best e =
      ⊎_elim
      (λ z. absurd (not_both K X e (subst (NoWorse K K.still) (sym (ap (K.join r) z ∙ join_none K X r)) (le_none K X K.still))))
      (λ t.
      let s = simple_best K X ne best t.0 t.1 in
      let k = keeps s.0 s.1 in
      let around : K.join (new a b) (rate K k.0) ≡ K.join r q = ap (λ y. K.join y (rate K k.0)) new_lane ∙ ap (K.join r) (k.1 ∙ s.2) in
      record {
        at = a;
        trip = go b (λ z. stands (sym new_lane ∙ z)) k.0;
        some_lane = omega arith;
        earns = ap (λ y. K.better y K.still) around ∙ e;
      })
      best.reached

  -- some closed trip earns with the new rate exactly when the rate and the best way back beat still
  pub earning_test : NoEarning K m → (r ≡ K.none → ⊥) → (q : M) → Best K X m b a q → (Earning K new → K.better (K.join r q) K.still ≡ true) × (K.better (K.join r q) K.still ≡ true → Earning K new)
  earning_test ne stands q best = (
    λ earning. ⊎_elim (λ h. absurd (stays_without_earning ne q best h earning)) (λ e. e) (le_or_better K X K.still (K.join r q)),
    earns_around ne stands q best,
  )
