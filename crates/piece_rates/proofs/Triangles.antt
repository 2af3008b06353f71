-- Within a triangle no trip beats the better of the direct lane and the way by the third corner.
-- Assumes the laws, and that no closed trip earns.
use Rattle.std.proofs.Common.{◌≡◌, ℕ, eqb, sym, refl, ap, ◌∙◌, subst, inl, inr, ⊎_elim, arith}
use Rattle.std.proofs.lemmas.Bool.{cases_eq, cond-true, cond-false, eq-eqb, ne_eqb}
use Rattle.std.proofs.lemmas.Bool.Decides.{nat_tests}
use Rattle.rates.specs.Kinds.{Kind, Laws, NoWorse}
use Rattle.rates.specs.Many.{better_of}
use Rattle.rates.specs.Order.{le_from, le_trans, le_none, join_left, join_right, join_still, join_none, better_of_first, better_of_second, better_of_either}
use Rattle.trips.specs.Trips.{LaneMap, Standing, Trip, rate, NoEarning}
use Rattle.trips.specs.Trips.Trip.{stay, go}
use Rattle.trips.proofs.Walks.{Reached, rate_of_best, reached_stay, reached_join, reached_better, closed_reached}
use Rattle.piece_rates.specs.Triangles.{Corner, third_corner, Triangular, triangle_entry, TriangleEntriesAreBest}
use Rattle.piece_rates.proofs.Sizes.{none_or_not}

third_is : (a b c u v w : ℕ) → Corner a b c u → Corner a b c v → Corner a b c w → (u ≡ v → ⊥) → (u ≡ w → ⊥) → (v ≡ w → ⊥) → third_corner a b c u v ≡ w
third_is a b c u v w hu hv hw p q r = grind (arith, nat_tests)

-- of four corners three apart, the fourth is one of them
fourth_is : (a b c u v w x : ℕ) → Corner a b c u → Corner a b c v → Corner a b c w → Corner a b c x → (u ≡ v → ⊥) → (u ≡ w → ⊥) → (v ≡ w → ⊥) → (u ≡ x → ⊥) → (x ≡ v → ⊥) → x ≡ w
fourth_is a b c u v w x hu hv hw hx p q r s t = grind arith

module _ {M : Type 0} (K : Kind M) (X : Laws K) where
  lane_reached : (m : LaneMap M) (u v : ℕ) → Reached K X m u v (m u v)
  unfolding rate
  lane_reached m u v = ⊎_elim (λ z. inl z) (λ s. inr (go v s stay, join_still K X (m u v))) (none_or_not K X (m u v))

  module _ (a b c : ℕ) (m : LaneMap M) (tri : Triangular K a b c m) (ne : NoEarning K m) where
    abbrev entry : ℕ → ℕ → M
    entry = triangle_entry K a b c m

    abbrev by_third : ℕ → ℕ → M
    by_third u v = K.join (m u (third_corner a b c u v)) (m (third_corner a b c u v) v)

    same_still : (u v : ℕ) → u ≡ v → entry u v ≡ K.still
    same_still u v z = cond-true (eqb u v) K.still (better_of K (m u v) (by_third u v)) (eq-eqb u v z)

    apart_better : (u v : ℕ) → (u ≡ v → ⊥) → entry u v ≡ better_of K (m u v) (by_third u v)
    apart_better u v z = cond-false (eqb u v) K.still (better_of K (m u v) (by_third u v)) (ne_eqb u v z)

    reached : (u v : ℕ) → Reached K X m u v (entry u v)
    reached u v =
        ⊎_elim
        (λ z. subst (Reached K X m u v) (sym (same_still u v z)) (subst (λ w. Reached K X m u w K.still) z (reached_stay K X)))
        (λ z. subst (Reached K X m u v) (sym (apart_better u v z))
        (reached_better K X (lane_reached m u v) (reached_join K X (lane_reached m u (third_corner a b c u v)) (lane_reached m (third_corner a b c u v) v))))
        (cases_eq u v)

    no_worse_direct : (u v : ℕ) → (u ≡ v → ⊥) → NoWorse K (entry u v) (m u v)
    no_worse_direct u v z = subst (λ r. NoWorse K r (m u v)) (sym (apart_better u v z)) (better_of_first K X (m u v) (by_third u v))

    no_worse_by : (u v w : ℕ) → (u ≡ v → ⊥) → third_corner a b c u v ≡ w → NoWorse K (entry u v) (K.join (m u w) (m w v))
    no_worse_by u v w z e =
        subst (λ r. NoWorse K r (K.join (m u w) (m w v))) (sym (apart_better u v z))
        (subst (λ x. NoWorse K (better_of K (m u v) (by_third u v)) (K.join (m u x) (m x v))) e (better_of_second K X (m u v) (by_third u v)))

    from_none : (r s : M) → s ≡ K.none → NoWorse K r s
    from_none r s z = subst (NoWorse K r) (sym z) (le_none K X r)

    -- a loop at the end of a lane betters nothing
    lane_and_loop : (u w : ℕ) (l : M) → Reached K X m w w l → NoWorse K (m u w) (K.join (m u w) l)
    lane_and_loop u w l h =
        subst (λ r. NoWorse K r (K.join (m u w) l)) (join_still K X (m u w)) (join_right K X (m u w) (closed_reached K X ne w h))

    -- one more lane at the end: three distinct corners, so the way so far is direct, or came by the lane's own end
    module _ (u w v : ℕ) (s : Standing K m w v) (u_w : u ≡ w → ⊥) (u_v : u ≡ v → ⊥) where
      after_direct : NoWorse K (entry u v) (K.join (m u w) (m w v))
      after_direct =
          ⊎_elim (λ z. from_none (entry u v) (K.join (m u w) (m w v)) (ap (λ r. K.join r (m w v)) z ∙ X.none_absorbs (m w v)))
          (λ t. no_worse_by u v w u_v
          (third_is a b c u v w (tri u w t).0 (tri w v s).1 (tri w v s).0 u_v u_w (λ z. (tri w v s).2 (sym z))))
          (none_or_not K X (m u w))

      after_third : (x : ℕ) → NoWorse K (entry u v) (K.join (K.join (m u x) (m x w)) (m w v))
      after_third x =
          ⊎_elim
          (λ z. from_none (entry u v) (K.join (K.join (m u x) (m x w)) (m w v))
          (ap (λ r. K.join (K.join r (m x w)) (m w v)) z ∙ ap (λ r. K.join r (m w v)) (X.none_absorbs (m x w)) ∙ X.none_absorbs (m w v)))
          (λ t. ⊎_elim
          (λ z. from_none (entry u v) (K.join (K.join (m u x) (m x w)) (m w v))
          (ap (λ r. K.join (K.join (m u x) r) (m w v)) z ∙ ap (λ r. K.join r (m w v)) (join_none K X (m u x)) ∙ X.none_absorbs (m w v)))
          (λ t'.
          let e = fourth_is a b c u w v x (tri u x t).0 (tri w v s).0 (tri w v s).1 (tri u x t).1 u_w u_v (tri w v s).2 (tri u x t).2 (tri x w t').2 in
          subst (λ r. NoWorse K (entry u v) r) (sym (X.join_associative (m u x) (m x w) (m w v)))
          (subst (λ y. NoWorse K (entry u v) (K.join (m u y) (K.join (m y w) (m w v)))) (sym e)
          (le_trans K X (no_worse_direct u v u_v)
          (lane_and_loop u v (K.join (m v w) (m w v)) (reached_join K X (lane_reached m v w) (lane_reached m w v))))))
          (none_or_not K X (m x w)))
          (none_or_not K X (m u x))

      after_both : NoWorse K (entry u v) (K.join (entry u w) (m w v))
      after_both =
          ⊎_elim
          (λ z. subst (λ r. NoWorse K (entry u v) (K.join r (m w v))) (sym (apart_better u w u_w ∙ z)) after_direct)
          (λ z. subst (λ r. NoWorse K (entry u v) (K.join r (m w v))) (sym (apart_better u w u_w ∙ z)) (after_third (third_corner a b c u w)))
          (better_of_either K X (m u w) (by_third u w))

    relaxed : (u w v : ℕ) → Standing K m w v → NoWorse K (entry u v) (K.join (entry u w) (m w v))
    relaxed u w v s =
        ⊎_elim
        (λ z. subst (NoWorse K (entry u v))
        (sym (ap (λ r. K.join r (m w v)) (same_still u w z) ∙ X.still_joins_to_same (m w v) ∙ ap (λ y. m y v) (sym z)))
        (no_worse_direct u v (λ e. (tri w v s).2 (sym z ∙ e))))
        (λ u_w. ⊎_elim
        (λ z. subst (λ r. NoWorse K r (K.join (entry u w) (m w v))) (sym (same_still u v z))
        (closed_reached K X ne u (subst (λ y. Reached K X m u y (K.join (entry u w) (m w v))) (sym z) (reached_join K X (reached u w) (lane_reached m w v)))))
        (λ u_v. after_both u w v s u_w u_v)
        (cases_eq u v))
        (cases_eq u w)

    walked : (u : ℕ) {w v : ℕ} (t : Trip K m w v) → NoWorse K (entry u v) (K.join (entry u w) (rate K t))
    unfolding rate
    walked u {w} stay = le_from K X (entry u w) (K.join (entry u w) K.still) (sym (join_still K X (entry u w)))
    walked u {w} {v} (go x s t) =
        subst (NoWorse K (entry u v)) (X.join_associative (entry u w) (m w x) (rate K t))
        (le_trans K X (walked u t) (join_left K X (rate K t) (relaxed u w x s)))

  pub triangle_entries_best : TriangleEntriesAreBest K
  triangle_entries_best a b c m tri ne u v =
      rate_of_best K X (record {
        reached = reached a b c m tri ne u v;
        unbeaten = λ t. subst (NoWorse K (triangle_entry K a b c m u v))
            (ap (λ r. K.join r (rate K t)) (same_still a b c m tri ne u u refl) ∙ X.still_joins_to_same (rate K t)) (walked a b c m tri ne u t);
      })
