-- Relaxing by the lanes out of one more terminal keeps a row of trips, and uses those lanes.
-- Assumes the laws of the kind.
use Rattle.std.proofs.Common.{◌≡◌, ℕ, ◌+◌, ◌*◌, ◌<◌, ◌≤◌, Bool, true, false, ◌⊎◌, sym, refl, ap, ◌∙◌, subst, ⊎_elim, arith}
use Rattle.std.proofs.lemmas.Bool.{cases_eq, both_ways}
use Rattle.rates.specs.Kinds.{Kind, Laws, NoWorse}
use Rattle.rates.specs.Many.{better_of}
use Rattle.rates.specs.Order.{le_refl, le_trans, better_le, le_better_trans, join_left, better_of_first, better_of_second, better_of_either}
use Rattle.trips.specs.Trips.{LaneMap}
use Rattle.trips.proofs.Walks.{reached_join, reached_better}
use Rattle.trips.proofs.BestExists.{lane_reached}
use Rattle.slow.specs.Rows.{lane_size, most_joined, OfTrip, Relaxed, Row, SweptFrom}

module _ {M : Type 0} (K : Kind M) (X : Laws K) where
  pub swept_none : (m : LaneMap M) (n u k : ℕ) (old : ℕ → M) → Row K m n u k old → SweptFrom K m n u k 0 old old false
  swept_none m n u k old h = record {
    still_row = record { of_trips = h.of_trips; small = λ w l. omega (arith, h.small w l) };
    no_worse = λ w l. le_refl K X (old w);
    lanes_used = λ v w p l. absurd (omega arith);
    unchanged = λ e w. refl;
    bettered = λ e. absurd (both_ways false refl e);
  }

  module _ (m : LaneMap M) (n u k j : ℕ) (old now new out : ℕ → M) (base : M) (changed here after : Bool)
      (few : n ≤ 64) (below : j < n) (bound : k ≤ most_joined)
      (sizes : (v w : ℕ) → K.size (m v w) ≤ lane_size)
      (h : SweptFrom K m n u k j old now changed)
      (base_is : base ≡ now j)
      (out_is : (w : ℕ) → w < n → out w ≡ m j w)
      (step : Relaxed K base out now new n here) where
    -- the sizes are small enough for an exact join
    one_step : (w : ℕ) → w < n → new w ≡ better_of K (now w) (K.join (now j) (m j w))
    one_step w l =
        step.done w l (omega (arith, ap K.size base_is, ap K.size (out_is w l), h.still_row.small j below, sizes j w))
        ∙ ap (λ x. better_of K (now w) (K.join x (out w))) base_is
        ∙ ap (λ x. better_of K (now w) (K.join (now j) x)) (out_is w l)

    no_worse_than : (w : ℕ) → w < n → NoWorse K (new w) (now w)
    no_worse_than w l =
        subst (λ x. NoWorse K x (now w)) (sym (one_step w l)) (better_of_first K X (now w) (K.join (now j) (m j w)))

    no_worse_by : (w : ℕ) → w < n → NoWorse K (new w) (K.join (now j) (m j w))
    no_worse_by w l =
        subst (λ x. NoWorse K x (K.join (now j) (m j w))) (sym (one_step w l)) (better_of_second K X (now w) (K.join (now j) (m j w)))

    joined_size : (w : ℕ) → K.size (K.join (now j) (m j w)) ≤ (k + (j + 1)) * lane_size
    joined_size w = omega (arith, X.join_size (now j) (m j w), sizes j w, h.still_row.small j below)

    pub swept_more : (after ≡ false → (changed ≡ false) × (here ≡ false)) → (after ≡ true → (changed ≡ true) ⊎ (here ≡ true)) → SweptFrom K m n u k (j + 1) old new after
    swept_more both either = record {
      still_row = record {
        of_trips = λ w l. subst (OfTrip K m u w) (sym (one_step w l))
            (reached_better K X (h.still_row.of_trips w l) (reached_join K X (h.still_row.of_trips j below) (lane_reached K X m j w)));
        small = λ w l. ⊎_elim
            (λ e. omega (arith, ap K.size (one_step w l ∙ e), h.still_row.small w l))
            (λ e. omega (arith, ap K.size (one_step w l ∙ e), joined_size w))
            (better_of_either K X (now w) (K.join (now j) (m j w)));
      };
      no_worse = λ w l. le_trans K X (no_worse_than w l) (h.no_worse w l);
      lanes_used = λ v w p l. ⊎_elim
          (λ z. subst (λ x. NoWorse K (new w) (K.join (old x) (m x w))) (sym z)
          (le_trans K X (no_worse_by w l) (join_left K X (m j w) (h.no_worse j below))))
          (λ z. le_trans K X (no_worse_than w l) (h.lanes_used v w (omega arith) l))
          (cases_eq v j);
      unchanged = λ e w. let p = both e in step.unchanged p.1 w ∙ h.unchanged p.0 w;
      bettered = λ e. ⊎_elim
          (λ z. let b = h.bettered z in (b.0, b.1, le_better_trans K X (no_worse_than b.0 b.1) b.2))
          (λ z. let b = step.bettered z in (b.0, b.1, better_le K X b.2 (h.no_worse b.0 b.1)))
          (either e);
    }
