-- Trips put end to end, and a best rate in two halves: it is reached, and it is not beaten.
-- Assumes the laws of the kind.
use Rattle.std.proofs.Common.{◌≡◌, ℕ, ◌<◌, ◌⊎◌, sym, refl, ap, ◌∙◌, subst, inl, inr, ⊎_elim, arith}
use Rattle.rates.specs.Kinds.{Kind, Laws, NoWorse}
use Rattle.rates.specs.Many.{better_of}
use Rattle.rates.specs.Order.{le_from, le_none, le_or_better, not_both, same, join_none, better_of_either}
use Rattle.trips.specs.Trips.{LaneMap, Trip, rate, lanes, NoEarning, BestRate, Fewer}
use Rattle.trips.specs.Trips.Trip.{stay, go}

module _ {M : Type 0} (K : Kind M) (X : Laws K) where
  abbrev pub append : {m : LaneMap M} {u w v : ℕ} → Trip K m u w → Trip K m w v → Trip K m u v
  append stay t = t
  append (go x s p) t = go x s (append p t)

  pub rate_append : {m : LaneMap M} {u w v : ℕ} (p : Trip K m u w) (t : Trip K m w v) → rate K (append p t) ≡ K.join (rate K p) (rate K t)
  unfolding rate
  rate_append stay t = sym (X.still_joins_to_same (rate K t))
  rate_append {m} {u} (go x s p) t =
      ap (K.join (m u x)) (rate_append p t) ∙ sym (X.join_associative (m u x) (rate K p) (rate K t))

  -- a trip's rate is never none
  pub rate_stands : {m : LaneMap M} {u v : ℕ} (t : Trip K m u v) → rate K t ≡ K.none → ⊥
  unfolding rate
  rate_stands stay e = X.still_not_none e
  rate_stands {m} {u} (go x s t) e = ⊎_elim s (rate_stands t) (X.others_never_join_to_none (m u x) (rate K t) e)

  -- reached: none, or some trip's rate
  abbrev pub Reached : LaneMap M → ℕ → ℕ → M → Type 0
  Reached m u v r = (r ≡ K.none) ⊎ ((t : Trip K m u v) × (rate K t ≡ r))

  abbrev pub Unbeaten : LaneMap M → ℕ → ℕ → M → Type 0
  Unbeaten m u v r = (t : Trip K m u v) → NoWorse K r (rate K t)

  pub record Best (m : LaneMap M) (u v : ℕ) (r : M) : Type 0 where
    pub reached : Reached m u v r
    pub unbeaten : Unbeaten m u v r

  pub best_of_rate : {m : LaneMap M} {u v : ℕ} {r : M} → BestRate K m u v r → Best m u v r
  best_of_rate (inl (none_at_all, e)) = record { reached = inl e; unbeaten = λ t. absurd (none_at_all t) }
  best_of_rate (inr (t, e, h)) = record { reached = inr (t, e); unbeaten = h }

  pub rate_of_best : {m : LaneMap M} {u v : ℕ} {r : M} → Best m u v r → BestRate K m u v r
  rate_of_best {m} {u} {v} {r} b =
      ⊎_elim
      (λ e. inl (λ t. rate_stands t (same K X (le_none K X (rate K t)) (subst (λ x. NoWorse K x (rate K t)) e (b.unbeaten t))), e))
      (λ t. inr (t.0, t.1, b.unbeaten))
      b.reached

  -- what is reached is no better than what is not beaten
  pub unbeaten_reached : {m : LaneMap M} {u v : ℕ} {r s : M} → Unbeaten m u v r → Reached m u v s → NoWorse K r s
  unbeaten_reached {m} {u} {v} {r} {s} h (inl e) = subst (NoWorse K r) (sym e) (le_none K X r)
  unbeaten_reached {m} {u} {v} {r} {s} h (inr (t, e)) = subst (NoWorse K r) e (h t)

  pub best_unique : {m : LaneMap M} {u v : ℕ} {r s : M} → Best m u v r → Best m u v s → r ≡ s
  best_unique p q = same K X (unbeaten_reached p.unbeaten q.reached) (unbeaten_reached q.unbeaten p.reached)

  pub reached_stay : {m : LaneMap M} {u : ℕ} → Reached m u u K.still
  unfolding rate
  reached_stay = inr (stay, refl)

  pub reached_join : {m : LaneMap M} {u w v : ℕ} {r s : M} → Reached m u w r → Reached m w v s → Reached m u v (K.join r s)
  reached_join {s = s} (inl e) q = inl (ap (λ x. K.join x s) e ∙ X.none_absorbs s)
  reached_join {r = r} (inr (p, e)) (inl f) = inl (ap (K.join r) f ∙ join_none K X r)
  reached_join {s = s} (inr (p, e)) (inr (q, f)) =
      inr (append p q, rate_append p q ∙ ap (λ x. K.join x (rate K q)) e ∙ ap (K.join _) f)

  pub reached_better : {m : LaneMap M} {u v : ℕ} {r s : M} → Reached m u v r → Reached m u v s → Reached m u v (better_of K r s)
  reached_better {m} {u} {v} {r} {s} p q =
      ⊎_elim (λ e. subst (Reached m u v) (sym e) p) (λ e. subst (Reached m u v) (sym e) q) (better_of_either K X r s)

  unfoldable pub trip_fewer : {m whole : LaneMap M} → Fewer K m whole → {u v : ℕ} → Trip K m u v → Trip K whole u v
  trip_fewer f stay = stay
  trip_fewer f {u} (go x s t) = go x (λ e. s (f u x s ∙ e)) (trip_fewer f t)

  pub rate_fewer : {m whole : LaneMap M} (f : Fewer K m whole) {u v : ℕ} (t : Trip K m u v) → rate K (trip_fewer f t) ≡ rate K t
  unfolding rate trip_fewer
  rate_fewer f stay = refl
  rate_fewer {m} {whole} f {u} (go x s t) =
      ap (K.join (whole u x)) (rate_fewer f t) ∙ ap (λ r. K.join r (rate K t)) (sym (f u x s))

  pub reached_fewer : {m whole : LaneMap M} {u v : ℕ} {r : M} → Fewer K m whole → Reached m u v r → Reached whole u v r
  reached_fewer f (inl e) = inl e
  reached_fewer f (inr (t, e)) = inr (trip_fewer f t, rate_fewer f t ∙ e)

  still_or_some_lane : {m : LaneMap M} {u v : ℕ} (t : Trip K m u v) → (rate K t ≡ K.still) ⊎ (0 < lanes K t)
  unfolding rate lanes
  still_or_some_lane stay = inl refl
  still_or_some_lane (go x s t) = inr (omega arith)

  -- no closed trip beats still, the empty one counted among them
  pub closed_no_better : {m : LaneMap M} → NoEarning K m → (u : ℕ) (t : Trip K m u u) → NoWorse K K.still (rate K t)
  closed_no_better {m} ne u t =
      ⊎_elim (λ e. le_from K X K.still (rate K t) (sym e))
      (λ l. ⊎_elim (λ h. h) (λ e. absurd (ne (record { at = u; trip = t; some_lane = l; earns = e }))) (le_or_better K X K.still (rate K t)))
      (still_or_some_lane t)

  pub no_earning : {m : LaneMap M} → ((u : ℕ) (t : Trip K m u u) → NoWorse K K.still (rate K t)) → NoEarning K m
  no_earning h e = not_both K X e.earns (h e.at e.trip)

  -- what is reached from a terminal back to it is no better than still
  pub closed_reached : {m : LaneMap M} → NoEarning K m → (u : ℕ) {r : M} → Reached m u u r → NoWorse K K.still r
  closed_reached ne u h = unbeaten_reached (closed_no_better ne u) h

  pub no_earning_fewer : {m whole : LaneMap M} → Fewer K m whole → NoEarning K whole → NoEarning K m
  no_earning_fewer {m} {whole} f ne =
      no_earning (λ u t. subst (NoWorse K K.still) (rate_fewer f t) (closed_no_better ne u (trip_fewer f t)))
