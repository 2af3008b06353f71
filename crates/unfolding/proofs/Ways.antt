-- The best rate over two parts that meet in a seam is that of one of the ways that a split chooses from.
-- Assumes the laws of the kind, two parts that meet, and that no closed trip earns.
use Rattle.std.proofs.Common.{◌≡◌, ℕ, Bool, true, false, cond, not, sym, refl, subst, ⊎_elim}
use Rattle.rates.specs.Kinds.{Kind, Laws, NoWorse}
use Rattle.rates.specs.Many.{better_of}
use Rattle.rates.specs.Order.{le_from, le_trans, join_right, same, better_of_first, better_of_second, better_of_either}
use Rattle.trips.specs.Trips.{LaneMap, NoEarning}
use Rattle.trips.specs.Climbs.{Meeting}
use Rattle.trips.proofs.Walks.{Reached, Best, unbeaten_reached, reached_join, reached_better, reached_fewer}
use Rattle.trips.proofs.Climb.{own_best, other_best}

module _ {M : Type 0} (K : Kind M) (X : Laws K) where
  -- the first of two rates named by a Bool, unless the second is better
  abbrev pub picked : (Bool → M) → M
  picked f = f (not (K.better (f false) (f true)))

  pub picked_better : (f : Bool → M) → picked f ≡ better_of K (f true) (f false)
  picked_better f = at (K.better (f false) (f true))
    where
      at : (b : Bool) → f (not b) ≡ cond b (f false) (f true)
      at true = refl
      at false = refl

  pub picked_no_worse : (f : Bool → M) (i : Bool) → NoWorse K (picked f) (f i)
  picked_no_worse f true = subst (λ r. NoWorse K r (f true)) (sym (picked_better f)) (better_of_first K X (f true) (f false))
  picked_no_worse f false = subst (λ r. NoWorse K r (f false)) (sym (picked_better f)) (better_of_second K X (f true) (f false))

  -- what is no worse than a b and than c b is no worse than the better of a and c, joined with b
  no_worse_either : (r a b c : M) → NoWorse K r (K.join a b) → NoWorse K r (K.join c b) → NoWorse K r (K.join (better_of K a c) b)
  no_worse_either r a b c p q =
      ⊎_elim (λ z. subst (λ w. NoWorse K r (K.join w b)) (sym z) p) (λ z. subst (λ w. NoWorse K r (K.join w b)) (sym z) q) (better_of_either K X a c)

  no_worse_both : (r a b : M) → NoWorse K r a → NoWorse K r b → NoWorse K r (better_of K a b)
  no_worse_both r a b p q =
      ⊎_elim (λ z. subst (NoWorse K r) (sym z) p) (λ z. subst (NoWorse K r) (sym z) q) (better_of_either K X a b)

  -- T has the best rates between the seam's ends within each part, R those from s to them within the part b.
  module _ (m : LaneMap M) (part : Bool → LaneMap M) (terminals : Bool → ℕ → Bool) (seam : Bool → ℕ)
      (meet : Meeting K m part terminals seam) (ne : NoEarning K m)
      (T : Bool → Bool → Bool → M) (t_best : (c i j : Bool) → Best K X (part c) (seam i) (seam j) (T c i j))
      (b : Bool) (s : ℕ) (s_in : terminals b s ≡ true)
      (R : Bool → M) (seam_row_best : (i : Bool) → Best K X (part b) s (seam i) (R i))
      (e : ℕ) (E : Bool → M) where
    -- out by the end i of the seam, through the other part, and back by the other end
    abbrev round : Bool → M
    round i = K.join (K.join (R i) (T (not b) i (not i))) (E (not i))

    abbrev across : Bool → M
    across i = K.join (R i) (E i)

    -- what a climb joins: to an end of the seam straight or by the other end, and on from there
    abbrev climb_end : Bool → M
    climb_end i = K.join (better_of K (R i) (K.join (R (not i)) (T (not b) (not i) i))) (E i)

    abbrev climb : M
    climb = better_of K (climb_end true) (climb_end false)

    r_reached : (i : Bool) → Reached K X m s (seam i) (R i)
    r_reached i = reached_fewer K X (meet.part_in_whole b) (seam_row_best i).reached

    picked_reached : (f : Bool → M) → ((i : Bool) → Reached K X m s e (f i)) → Reached K X m s e (picked f)
    picked_reached f h = h (not (K.better (f false) (f true)))

    back_again : (r : M) (i : Bool) → NoWorse K r (round (not i)) → NoWorse K r (K.join (K.join (R (not i)) (T (not b) (not i) i)) (E i))
    back_again r true h = h
    back_again r false h = h

    -- Both in the part b: within it, or round. What the climb adds to that, out and back by one end, is a trip within b.
    pub together_best : terminals b e ≡ true → ((i : Bool) → Best K X (part b) (seam i) e (E i))
        → (direct : M) → Best K X (part b) s e direct → (r : M) → Best K X m s e r → r ≡ better_of K direct (picked round)
    together_best e_in e_best direct direct_best r r_best =
        same K X (unbeaten_reached K X r_best.unbeaten reached)
        (le_trans K X climbs (unbeaten_reached K X own.unbeaten r_best.reached))
      where
        own : Best K X m s e (better_of K direct climb)
        own = own_best K X m part terminals seam meet ne b e e_in T t_best E e_best b s s_in R seam_row_best direct direct_best

        e_reached : (i : Bool) → Reached K X m (seam i) e (E i)
        e_reached i = reached_fewer K X (meet.part_in_whole b) (e_best i).reached

        reached : Reached K X m s e (better_of K direct (picked round))
        reached =
            reached_better K X (reached_fewer K X (meet.part_in_whole b) direct_best.reached)
            (picked_reached round (λ i. reached_join K X (reached_join K X (r_reached i) (reached_fewer K X (meet.part_in_whole (not b)) (t_best (not b) i (not i)).reached)) (e_reached (not i))))

        by_end : (i : Bool) → NoWorse K (better_of K direct (picked round)) (climb_end i)
        by_end i =
            no_worse_either (better_of K direct (picked round)) (R i) (E i) (K.join (R (not i)) (T (not b) (not i) i))
            (le_trans K X (better_of_first K X direct (picked round)) (unbeaten_reached K X direct_best.unbeaten (reached_join K X (seam_row_best i).reached (e_best i).reached)))
            (back_again (better_of K direct (picked round)) i (le_trans K X (better_of_second K X direct (picked round)) (picked_no_worse round (not i))))

        climbs : NoWorse K (better_of K direct (picked round)) (better_of K direct climb)
        climbs = no_worse_both (better_of K direct (picked round)) direct climb (better_of_first K X direct (picked round)) (no_worse_both (better_of K direct (picked round)) (climb_end true) (climb_end false) (by_end true) (by_end false))

    -- In different parts: by either end. What the climb adds, by both ends, is within the other part once the seam is reached.
    pub across_best : terminals (not b) e ≡ true → ((i : Bool) → Best K X (part (not b)) (seam i) e (E i))
        → (r : M) → Best K X m s e r → r ≡ picked across
    across_best e_in e_best r r_best =
        same K X (unbeaten_reached K X r_best.unbeaten reached)
        (le_trans K X (no_worse_both (picked across) (climb_end true) (climb_end false) (by_end true) (by_end false)) (unbeaten_reached K X other.unbeaten r_best.reached))
      where
        other : Best K X m s e climb
        other = other_best K X m part terminals seam meet ne (not b) e e_in T t_best E e_best b s s_in R seam_row_best refl

        reached : Reached K X m s e (picked across)
        reached = picked_reached across (λ i. reached_join K X (r_reached i) (reached_fewer K X (meet.part_in_whole (not b)) (e_best i).reached))

        by_end : (i : Bool) → NoWorse K (picked across) (climb_end i)
        by_end i =
            no_worse_either (picked across) (R i) (E i) (K.join (R (not i)) (T (not b) (not i) i)) (picked_no_worse across i)
            (le_trans K X (picked_no_worse across (not i))
            (le_trans K X
            (join_right K X (R (not i)) (unbeaten_reached K X (e_best (not i)).unbeaten (reached_join K X (t_best (not b) (not i) i).reached (e_best i).reached)))
            (le_from K X (K.join (R (not i)) (K.join (T (not b) (not i) i) (E i))) (K.join (K.join (R (not i)) (T (not b) (not i) i)) (E i))
            (sym (X.join_associative (R (not i)) (T (not b) (not i) i) (E i))))))
