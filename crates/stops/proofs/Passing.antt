-- Passing one more terminal keeps a trip without a terminal twice, and makes its rate no worse.
-- Assumes the laws, and that no closed trip earns.
use Rattle.std.proofs.Common.{◌≡◌, ℕ, zero, suc, false, eqb, List, [], ◌∷◌, ◌++◌, take, sym, refl, ap, ◌∙◌, subst, inr, ⊎_elim}
use Rattle.std.proofs.lemmas.Bool.{cases_Bool, cond-true, cond-false, eqb-true, eqb-false, eq-eqb}
use Rattle.rates.specs.Kinds.{Kind, Laws, NoWorse}
use Rattle.rates.specs.Order.{le_from, le_trans, join_left, join_right, join_still}
use Rattle.trips.specs.Trips.{LaneMap, Standing, rate, NoEarning, Absent, NoneTwice}
use Rattle.trips.specs.Trips.Trip.{stay, go}
use Rattle.trips.specs.Theorems.{final, Linked, rate_along}
use Rattle.trips.proofs.Walks.{Reached, reached_join, closed_reached}
use Rattle.trips.proofs.Shown.{stops_are_a_trip}
use Rattle.piece_rates.specs.Climbing.{place}
use Rattle.stops.specs.Passing.{passing, LoopsAreCut}

-- passing at the first stop, and further on
passing_first : (u w : ℕ) (list : List ℕ) → w ≡ u → passing (u ∷ list) w ≡ u ∷ []
passing_first u w list z =
    ap (λ k. take k (u ∷ list) ++ w ∷ []) (cond-true (eqb w u) zero (suc (place list w)) (eq-eqb w u z)) ∙ ap (λ v. v ∷ []) z

passing_later : (u w : ℕ) (list : List ℕ) → eqb w u ≡ false → passing (u ∷ list) w ≡ u ∷ passing list w
passing_later u w list z = ap (λ k. take k (u ∷ list) ++ w ∷ []) (cond-false (eqb w u) zero (suc (place list w)) z)

absent_passing : (x w : ℕ) (list : List ℕ) → (x ≡ w → ⊥) → Absent x list → Absent x (passing list w)
absent_passing x w [] d a = (d, tt)
absent_passing x w (u ∷ list) d a =
    ⊎_elim
    (λ z. subst (Absent x) (sym (passing_first u w list (eqb-true w u z))) (a.0, tt))
    (λ z. subst (Absent x) (sym (passing_later u w list z)) (a.0, absent_passing x w list d a.1))
    (cases_Bool (eqb w u))

none_twice_passing : (w : ℕ) (list : List ℕ) → NoneTwice list → NoneTwice (passing list w)
none_twice_passing w [] h = (tt, tt)
none_twice_passing w (u ∷ list) h =
    ⊎_elim
    (λ z. subst NoneTwice (sym (passing_first u w list (eqb-true w u z))) (tt, tt))
    (λ z. subst NoneTwice (sym (passing_later u w list z)) (absent_passing u w list (λ q. eqb-false w u z (sym q)) h.0, none_twice_passing w list h.1))
    (cases_Bool (eqb w u))

module _ {M : Type 0} (K : Kind M) (X : Laws K) (m : LaneMap M) (ne : NoEarning K m) where
  reached_along : (u : ℕ) (list : List ℕ) → Linked K m u list → Reached K X m u (final u list) (rate_along K m u list)
  reached_along u list h = let t = (stops_are_a_trip K X m u).0 list h in inr (t.0, t.1.rate_is)

  one_lane : (z w : ℕ) → Standing K m z w → Reached K X m z w (m z w)
  unfolding rate
  one_lane z w s = inr (go w s stay, join_still K X (m z w))

  -- the stops from u on and the lane back to u are a closed trip
  closed : (u : ℕ) (list : List ℕ) → Linked K m u list → Standing K m (final u list) u → NoWorse K K.still (K.join (rate_along K m u list) (m (final u list) u))
  closed u list h s = closed_reached K X ne u (reached_join K X (reached_along u list h) (one_lane (final u list) u s))

  record Kept (u w : ℕ) (list rest : List ℕ) : Type 0 where
    stops_are : passing (u ∷ list) w ≡ u ∷ rest
    linked : Linked K m u rest
    ends_there : final u rest ≡ w
    no_worse : NoWorse K (rate_along K m u rest) (K.join (rate_along K m u list) (m (final u list) w))

  -- where w is the first stop, only that stays
  first_or : (u w : ℕ) (list : List ℕ) → Linked K m u list → Standing K m (final u list) w → (eqb w u ≡ false → (rest : List ℕ) × Kept u w list rest) → (rest : List ℕ) × Kept u w list rest
  first_or u w list h s later =
      ⊎_elim
      (λ z.
      let q = eqb-true w u z in (
        [],
        record {
          stops_are = passing_first u w list q;
          linked = tt;
          ends_there = sym q;
          no_worse = subst (λ v. NoWorse K K.still (K.join (rate_along K m u list) (m (final u list) v))) (sym q) (closed u list h (subst (Standing K m (final u list)) q s));
        },
      ))
      later
      (cases_Bool (eqb w u))

  keeps : (u w : ℕ) (list : List ℕ) → Linked K m u list → Standing K m (final u list) w → (rest : List ℕ) × Kept u w list rest
  keeps u w [] h s = first_or u w [] h s (λ z. (
    w ∷ [],
    record {
      stops_are = passing_later u w [] z;
      linked = (s, tt);
      ends_there = refl;
      no_worse = le_from K X (K.join (m u w) K.still) (K.join K.still (m u w)) (X.join_commutative (m u w) K.still);
    },
  ))
  keeps u w (a ∷ list) h s =
      let k = keeps a w list h.1 s in
      first_or u w (a ∷ list) h s (λ z. (
        a ∷ k.0,
        record {
          stops_are = passing_later u w (a ∷ list) z ∙ ap (λ l. u ∷ l) k.1.stops_are;
          linked = (h.0, k.1.linked);
          ends_there = k.1.ends_there;
          no_worse = le_trans K X (join_right K X (m u a) k.1.no_worse)
              (le_from K X (K.join (m u a) (K.join (rate_along K m a list) (m (final a list) w))) (K.join (K.join (m u a) (rate_along K m a list)) (m (final a list) w))
              (sym (X.join_associative (m u a) (rate_along K m a list) (m (final a list) w))));
        },
      ))

pub loops_are_cut : {M : Type 0} (K : Kind M) (X : Laws K) → LoopsAreCut K
loops_are_cut K X m ne u z w list r t s =
    let k = keeps K X m ne u w list t.linked (subst (λ v. Standing K m v w) (sym t.ends_there) s) in (
      k.0,
      k.1.stops_are,
      record {
        linked = k.1.linked;
        ends_there = k.1.ends_there;
        none_twice = subst NoneTwice k.1.stops_are (none_twice_passing w (u ∷ list) t.none_twice);
        no_worse = subst (λ v. NoWorse K (rate_along K m u k.0) (K.join r (m v w))) t.ends_there
            (le_trans K X k.1.no_worse (join_left K X (m (final u list) w) t.no_worse));
      },
    )
