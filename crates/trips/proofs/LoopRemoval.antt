-- Every trip has one with the same ends, no terminal twice, and a rate no worse, where no closed trip earns.
-- Assumes the laws of the kind.
use Rattle.std.proofs.Common.{◌≡◌, ℕ, ◌+◌, ◌⊎◌, sym, refl, ap, ◌∙◌, subst, inl, inr, ⊎_elim, arith}
use Rattle.std.proofs.lemmas.Bool.{cases_eq}
use Rattle.rates.specs.Kinds.{Kind, Laws, NoWorse}
use Rattle.rates.specs.Order.{le_refl, le_from, le_trans, join_right, join_left}
use Rattle.trips.specs.Trips.{LaneMap, Standing, Trip, rate, lanes, stops, NoEarning, Absent, NoneTwice}
use Rattle.trips.specs.Trips.Trip.{stay, go}
use Rattle.trips.specs.Theorems.{Shortened}
use Rattle.trips.proofs.Walks.{closed_no_better}

module _ {M : Type 0} (K : Kind M) (X : Laws K) where
  -- x is a stop of the trip
  abbrev pub Passes : {m : LaneMap M} {u v : ℕ} → ℕ → Trip K m u v → Type 0
  Passes {u = u} x stay = x ≡ u
  Passes {u = u} x (go w s t) = (x ≡ u) ⊎ Passes x t

  pub passes_or_absent : {m : LaneMap M} {u v : ℕ} (x : ℕ) (t : Trip K m u v) → Passes x t ⊎ Absent x (stops K t)
  unfolding stops
  passes_or_absent {m} {u} x stay = ⊎_elim inl (λ n. inr (n, tt)) (cases_eq x u)
  passes_or_absent {m} {u} x (go w s t) =
      ⊎_elim (λ e. inl (inl e)) (λ n. ⊎_elim (λ p. inl (inr p)) (λ a. inr (n, a)) (passes_or_absent x t)) (cases_eq x u)

  -- the end is a stop
  pub end_passed : {m : LaneMap M} {u v : ℕ} (t : Trip K m u v) → Passes v t
  end_passed stay = refl
  end_passed (go w s t) = inr (end_passed t)

  pub absent_not_passed : {m : LaneMap M} {u v : ℕ} (x : ℕ) (t : Trip K m u v) → Absent x (stops K t) → Passes x t → ⊥
  unfolding stops
  absent_not_passed x stay (n, h) e = n e
  absent_not_passed x (go w s t) (n, h) (inl e) = n e
  absent_not_passed x (go w s t) (n, h) (inr p) = absent_not_passed x t h p

  -- a trip cut at a stop: the part up to it, the part from it on
  pub record Cut (m : LaneMap M) (u v x : ℕ) (r : M) (n : ℕ) : Type 0 where
    pub front : Trip K m u x
    pub back : Trip K m x v
    pub back_none_twice : NoneTwice (stops K back)
    pub rates : r ≡ K.join (rate K front) (rate K back)
    pub lanes_add : n ≡ lanes K front + lanes K back

  cut_here : {m : LaneMap M} {u v : ℕ} (x : ℕ) (t : Trip K m u v) → NoneTwice (stops K t) → x ≡ u → Cut m u v x (rate K t) (lanes K t)
  unfolding rate lanes
  cut_here {m} {u} {v} x t h e =
      subst (λ y. Cut m u v y (rate K t) (lanes K t)) (sym e)
      (record { front = stay; back = t; back_none_twice = h; rates = sym (X.still_joins_to_same (rate K t)); lanes_add = omega arith })

  pub cut : {m : LaneMap M} {u v : ℕ} (x : ℕ) (t : Trip K m u v) → NoneTwice (stops K t) → Passes x t → Cut m u v x (rate K t) (lanes K t)
  unfolding rate stops lanes
  cut x stay h e = cut_here x stay h e
  cut x (go w s t) h (inl e) = cut_here x (go w s t) h e
  cut {m} {u} x (go w s t) (a, h) (inr p) =
      let c = cut x t h p in
      record {
        front = go w s c.front;
        back = c.back;
        back_none_twice = c.back_none_twice;
        rates = ap (K.join (m u w)) c.rates ∙ sym (X.join_associative (m u w) (rate K c.front) (rate K c.back));
        lanes_add = omega (arith, c.lanes_add);
      }

  -- Take a first lane u to w and a shortened rest. Where the rest does not pass u, put the lane before it.
  -- Where it does, the lane and the rest up to u are a closed trip, no better than still: leave them out.
  shorten_step : {m : LaneMap M} → NoEarning K m → (u v w : ℕ) (s : Standing K m u w) (t : Trip K m w v) → Shortened K m w v t → Shortened K m u v (go w s t)
  unfolding rate stops
  shorten_step {m} ne u v w s t h =
      ⊎_elim
      (λ p.
      let c = cut u h.trip h.none_twice p in
      let loop = closed_no_better K X ne u (go w s c.front) in
      record {
        trip = c.back;
        none_twice = c.back_none_twice;
        no_worse =
            le_trans K X
            (subst (λ r. NoWorse K r (K.join (K.join (m u w) (rate K c.front)) (rate K c.back))) (X.still_joins_to_same (rate K c.back))
            (join_left K X (rate K c.back) loop))
            (le_trans K X
            (le_from K X (K.join (K.join (m u w) (rate K c.front)) (rate K c.back)) (K.join (m u w) (rate K h.trip))
            (X.join_associative (m u w) (rate K c.front) (rate K c.back) ∙ ap (K.join (m u w)) (sym c.rates)))
            (join_right K X (m u w) h.no_worse));
      })
      (λ a. record { trip = go w s h.trip; none_twice = (a, h.none_twice); no_worse = join_right K X (m u w) h.no_worse })
      (passes_or_absent u h.trip)

  pub shorten : {m : LaneMap M} → NoEarning K m → {u v : ℕ} (t : Trip K m u v) → Shortened K m u v t
  unfolding stops
  shorten ne stay = record { trip = stay; none_twice = (tt, tt); no_worse = le_refl K X (rate K stay) }
  shorten ne {u} {v} (go w s t) = shorten_step ne u v w s t (shorten ne t)
