-- Each sweep makes a row cover trips of one lane more, and a sweep that changes nothing makes it cover all.
-- Assumes the laws of the kind.
use Rattle.std.proofs.Common.{◌≡◌, ℕ, suc, ◌+◌, ◌*◌, ◌<◌, ◌≤◌, Bool, false, ◌⊎◌, sym, refl, ap, ◌∙◌, subst, inl, inr, ⊎_elim, arith}
use Rattle.std.proofs.lemmas.Bool.{cases_eq}
use Rattle.rates.specs.Kinds.{Kind, Laws, NoWorse}
use Rattle.rates.specs.Order.{le_from, le_trans, join_left, join_still}
use Rattle.trips.specs.Trips.{LaneMap, Standing, Trip, rate, lanes, Over}
use Rattle.trips.specs.Trips.Trip.{stay, go}
use Rattle.trips.proofs.Walks.{reached_stay}
use Rattle.trips.proofs.Tables.{row_unbeaten}
use Rattle.slow.specs.Rows.{OfTrip, Row, SweptFrom, Found, Start}

module _ {M : Type 0} (K : Kind M) (X : Laws K) where
  -- a trip taken apart before its last lane
  record LastLane (m : LaneMap M) (u w : ℕ) (r : M) (k : ℕ) : Type 0 where
    at : ℕ
    front : Trip K m u at
    stands : Standing K m at w
    rates : r ≡ K.join (rate K front) (m at w)
    one_more : k ≡ suc (lanes K front)

  -- a trip of no lane
  record Stays (u w : ℕ) (r : M) (k : ℕ) : Type 0 where
    ends : w ≡ u
    still : r ≡ K.still
    no_lane : k ≡ 0

  last_lane : {m : LaneMap M} {u w : ℕ} (t : Trip K m u w) → Stays u w (rate K t) (lanes K t) ⊎ LastLane m u w (rate K t) (lanes K t)
  unfolding rate lanes
  last_lane stay = inl (record { ends = refl; still = refl; no_lane = refl })
  last_lane {m} {u} {w} (go x s t) = ⊎_elim only_lane more (last_lane t)
    where
      only_lane : Stays x w (rate K t) (lanes K t) → Stays u w (K.join (m u x) (rate K t)) (1 + lanes K t) ⊎ LastLane m u w (K.join (m u x) (rate K t)) (1 + lanes K t)
      only_lane h = inr (record {
        at = u;
        front = stay;
        stands = λ z. s (ap (m u) (sym h.ends) ∙ z);
        rates =
            ap (K.join (m u x)) h.still ∙ join_still K X (m u x) ∙ ap (m u) (sym h.ends)
            ∙ sym (X.still_joins_to_same (m u w));
        one_more = omega (arith, h.no_lane);
      })

      more : LastLane m x w (rate K t) (lanes K t) → Stays u w (K.join (m u x) (rate K t)) (1 + lanes K t) ⊎ LastLane m u w (K.join (m u x) (rate K t)) (1 + lanes K t)
      more h = inr (record {
        at = h.at;
        front = go x s h.front;
        stands = h.stands;
        rates = ap (K.join (m u x)) h.rates ∙ sym (X.join_associative (m u x) (rate K h.front) (m h.at w));
        one_more = omega (arith, h.one_more);
      })

  row_larger : {m : LaneMap M} {n u : ℕ} {row : ℕ → M} (j k : ℕ) → j ≤ k → Row K m n u j row → Row K m n u k row
  row_larger j k l h = record { of_trips = h.of_trips; small = λ w p. omega (arith, h.small w p) }

  module _ (m : LaneMap M) (n u : ℕ) (o : Over K n m) where
    pub found_start : (row : ℕ → M) → Start K n u row → Found K m n u 0 row
    found_start row h = record {
      row_of_trips = record {
        of_trips = λ w l. ⊎_elim
            (λ z. subst (λ x. OfTrip K m u x (row x)) (sym z) (subst (OfTrip K m u u) (sym h.staying) (reached_stay K X)))
            (λ z. inl (h.elsewhere w l z))
            (cases_eq w u);
        small = λ w l. ⊎_elim
            (λ z. omega (arith, ap (λ x. K.size (row x)) z, ap K.size h.staying, X.still_size))
            (λ z. omega (arith, ap K.size (h.elsewhere w l z), X.none_size))
            (cases_eq w u);
      };
      covers = λ w l t few. ⊎_elim
          (λ s. subst (λ x. NoWorse K (row x) (rate K t)) (sym s.ends) (le_from K X (row u) (rate K t) (h.staying ∙ sym s.still)))
          (λ s. absurd (omega (arith, s.one_more)))
          (last_lane t);
    }

    module _ (i : ℕ) (old new : ℕ → M) (changed : Bool) (few : n ≤ 64) (h : Found K m n u i old) (s : SweptFrom K m n u (64 * i) n old new changed) where
      -- a trip of one lane more is a shorter one, or a shorter one and a last lane, which the sweep used
      pub found_more : Found K m n u (i + 1) new
      found_more = record {
        row_of_trips = row_larger (64 * i + n) (64 * (i + 1)) (omega arith) s.still_row;
        covers = λ w l t short. ⊎_elim
            (λ z. le_trans K X (s.no_worse w l) (h.covers w l t (omega (arith, z.no_lane))))
            (λ z.
            let v = z.at in
            let v_below = (o v w z.stands).0 in
            le_trans K X (s.lanes_used v w v_below l)
            (le_trans K X (join_left K X (m v w) (h.covers v v_below z.front (omega (arith, z.one_more))))
            (le_from K X (K.join (rate K z.front) (m v w)) (rate K t) (sym z.rates))))
            (last_lane t);
      }

      covered_staying : u < n → NoWorse K (old u) K.still
      unfolding rate lanes
      covered_staying l = h.covers u l stay (omega arith)

      -- a row that a sweep leaves as it was is bettered by no lane, so no trip beats it
      pub found_early : u < n → changed ≡ false → (k : ℕ) → i ≤ k → Found K m n u k new
      found_early below e k l =
          let as_before = s.unchanged e in
          record {
            row_of_trips = record {
              of_trips = λ w p. subst (OfTrip K m u w) (sym (as_before w)) (h.row_of_trips.of_trips w p);
              small = λ w p. omega (arith, ap K.size (as_before w), h.row_of_trips.small w p);
            };
            covers = λ w p t _.
                subst (λ x. NoWorse K x (rate K t)) (sym (as_before w))
                (row_unbeaten K X m n old o
                (λ v x q r _. subst (λ y. NoWorse K y (K.join (old v) (m v x))) (as_before x) (s.lanes_used v x q r))
                u below (covered_staying below) w t);
          }
