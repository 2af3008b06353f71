-- Over n terminals, if no closed trip of at most n lanes earns, none does.
-- Assumes the laws of the kind.
use Rattle.std.proofs.Common.{◌≡◌, ℕ, zero, suc, ◌+◌, ◌<◌, ◌≤◌, ◌⊎◌, sym, refl, ap, ◌∙◌, subst, inl, inr, ⊎_elim, arith}
use Rattle.std.proofs.lemmas.Bool.{cases_lt}
use Rattle.rates.specs.Kinds.{Kind, Laws, NoWorse}
use Rattle.rates.specs.Order.{le_refl, le_from, le_trans, join_right, join_left}
use Rattle.trips.specs.Trips.{LaneMap, Trip, rate, lanes, stops, NoEarning, Over, NoneTwice}
use Rattle.trips.specs.Trips.Trip.{stay, go}
use Rattle.trips.proofs.Walks.{append, rate_append, no_earning}
use Rattle.trips.proofs.LoopRemoval.{passes_or_absent, cut}
use Rattle.trips.proofs.BestExists.{few_lanes}

module _ {M : Type 0} (K : Kind M) (X : Laws K) where
  lanes_append : {m : LaneMap M} {u w v : ℕ} (p : Trip K m u w) (t : Trip K m w v) → lanes K (append K X p t) ≡ lanes K p + lanes K t
  unfolding lanes
  lanes_append stay t = omega arith
  lanes_append (go x s p) t = omega (arith, lanes_append p t)

  -- a loop within a trip
  record Looped (m : LaneMap M) (u v : ℕ) (r : M) (n : ℕ) : Type 0 where
    at : ℕ
    front : Trip K m u at
    loop : Trip K m at at
    back : Trip K m at v
    some_lane : 0 < lanes K loop
    rates : r ≡ K.join (rate K front) (K.join (rate K loop) (rate K back))
    lanes_add : n ≡ lanes K front + (lanes K loop + lanes K back)

  looped_or_simple : {m : LaneMap M} {u v : ℕ} (t : Trip K m u v) → Looped m u v (rate K t) (lanes K t) ⊎ NoneTwice (stops K t)
  unfolding rate stops lanes
  looped_or_simple stay = inr (tt, tt)
  looped_or_simple {m} {u} {v} (go w s t) =
      ⊎_elim
      (λ l. inl (record {
        at = l.at;
        front = go w s l.front;
        loop = l.loop;
        back = l.back;
        some_lane = l.some_lane;
        rates = ap (K.join (m u w)) l.rates ∙ sym (X.join_associative (m u w) (rate K l.front) (K.join (rate K l.loop) (rate K l.back)));
        lanes_add = omega (arith, l.lanes_add);
      }))
      (λ h. ⊎_elim
      (λ p.
      let c = cut K X u t h p in
      inl (record {
        at = u;
        front = stay;
        loop = go w s c.front;
        back = c.back;
        some_lane = omega arith;
        rates =
            ap (K.join (m u w)) c.rates ∙ sym (X.join_associative (m u w) (rate K c.front) (rate K c.back))
            ∙ sym (X.still_joins_to_same (K.join (K.join (m u w) (rate K c.front)) (rate K c.back)));
        lanes_add = omega (arith, c.lanes_add);
      }))
      (λ a. inr (a, h))
      (passes_or_absent K X u t))
      (looped_or_simple t)

  module _ (m : LaneMap M) (n : ℕ) (o : Over K n m) (short : (u : ℕ) (t : Trip K m u u) → lanes K t ≤ n → NoWorse K K.still (rate K t)) where
    closed_short : {u v : ℕ} (t : Trip K m u v) → u ≡ v → lanes K t ≤ n → NoWorse K K.still (rate K t)
    closed_short {u} {v} t e l =
        subst (λ x. (s : Trip K m u x) → lanes K s ≤ n → NoWorse K K.still (rate K s)) e (short u) t l

    -- A long closed trip is a first lane and a rest that passes some terminal twice.
    -- The loop in the rest, and what is left without it, are closed trips of fewer lanes.
    closed : (k : ℕ) {u v : ℕ} (t : Trip K m u v) → u ≡ v → lanes K t ≤ k → NoWorse K K.still (rate K t)
    unfolding rate lanes
    closed k stay e l = le_refl K X K.still
    closed zero (go w s t) e l = absurd (omega arith)
    closed (suc k) {u} {v} (go w s t) e l =
        ⊎_elim
        (λ few. closed_short (go w s t) e (omega arith))
        (λ many. ⊎_elim
        (λ c.
        let rest : Trip K m u v = go w s (append K X c.front c.back) in
        let left_out : NoWorse K (rate K (append K X c.front c.back)) (rate K t) =
        le_trans K X
        (le_from K X (rate K (append K X c.front c.back)) (K.join (rate K c.front) (K.join K.still (rate K c.back)))
        (rate_append K X c.front c.back ∙ ap (K.join (rate K c.front)) (sym (X.still_joins_to_same (rate K c.back)))))
        (le_trans K X (join_right K X (rate K c.front) (join_left K X (rate K c.back) (closed k c.loop refl (omega (arith, c.lanes_add)))))
        (le_from K X (K.join (rate K c.front) (K.join (rate K c.loop) (rate K c.back))) (rate K t) (sym c.rates))) in
        le_trans K X (closed k rest e (omega (arith, c.lanes_add, c.some_lane, lanes_append c.front c.back)))
        (join_right K X (m u w) left_out))
        (λ h. absurd (omega (arith, few_lanes K X n o t h, (o u w s).0)))
        (looped_or_simple t))
        (cases_lt (lanes K t) n)

    pub short_loops_enough : NoEarning K m
    short_loops_enough = no_earning K X (λ u t. closed (lanes K t) t refl (omega arith))
