-- From best rates within two parts that meet in two terminals to best rates over both.
-- Assumes the laws of the kind, two parts that meet, and that no closed trip earns.
use Rattle.std.proofs.Common.{◌≡◌, ℕ, zero, suc, ◌≤◌, Bool, true, false, not, ◌⊎◌, sym, refl, ap, ◌∙◌, subst, inl, inr, ⊎_elim, arith}
use Rattle.rates.specs.Kinds.{Kind, Laws, NoWorse}
use Rattle.rates.specs.Many.{better_of}
use Rattle.rates.specs.Order.{le_from, le_trans, join_left, join_both, join_still, better_of_first, better_of_second, better_of_either}
use Rattle.trips.specs.Trips.{LaneMap, Standing, Trip, rate, lanes, NoEarning, Fewer}
use Rattle.trips.specs.Trips.Trip.{stay, go}
use Rattle.trips.specs.Climbs.{Meeting}
use Rattle.trips.proofs.Walks.{Reached, Best, unbeaten_reached, reached_join, reached_better, reached_fewer, closed_reached}

-- of two Bools the first is the second, or the other
same_or_other : (a b : Bool) → (a ≡ b) ⊎ (a ≡ not b)
same_or_other true true = inl refl
same_or_other true false = inr refl
same_or_other false true = inr refl
same_or_other false false = inl refl

-- a fact of both Bools, from that of one and of the other
for_both : (P : Bool → Type 0) (b : Bool) → P b → P (not b) → (c : Bool) → P c
for_both P b p q c = ⊎_elim (λ e. subst P (sym e) p) (λ e. subst P (sym e) q) (same_or_other c b)

module _ {M : Type 0} (K : Kind M) (X : Laws K)
    (m : LaneMap M) (part : Bool → LaneMap M) (terminals : Bool → ℕ → Bool) (seam : Bool → ℕ)
    (meet : Meeting K m part terminals seam) (ne : NoEarning K m) where
  in_whole : (c : Bool) → Fewer K (part c) m
  in_whole c = meet.part_in_whole c

  -- a terminal of both parts is an end of the seam
  shared : (c : Bool) (u : ℕ) → terminals c u ≡ true → terminals (not c) u ≡ true → (i : Bool) × (u ≡ seam i)
  shared true u p q = meet.only_seam_shared u p q
  shared false u p q = meet.only_seam_shared u q p

  end_inside : (c : Bool) {u v : ℕ} → terminals c u ≡ true → Trip K (part c) u v → terminals c v ≡ true
  end_inside c h stay = h
  end_inside c {u} h (go w s t) = end_inside c (meet.lane_to c u w s) t

  stay_at : {n : LaneMap M} (u v : ℕ) → u ≡ v → (t : Trip K n u v) × (rate K t ≡ K.still)
  unfolding rate
  stay_at {n} u v e = subst (λ x. (t : Trip K n u x) × (rate K t ≡ K.still)) e (stay, refl)

  -- A trip that begins in a part stays in it to the end, or comes to an end of the seam and goes on from there.
  abbrev Inside : Bool → ℕ → ℕ → M → Type 0
  Inside c u e r = (p : Trip K (part c) u e) × (rate K p ≡ r)

  pub record Leaves (c : Bool) (u e : ℕ) (r : M) (n : ℕ) : Type 0 where
    pub end : Bool
    pub front : Trip K (part c) u (seam end)
    pub back : Trip K m (seam end) e
    pub rates : K.join (rate K front) (rate K back) ≡ r
    pub fewer : lanes K back ≤ n

  first_pass : (c : Bool) {u e : ℕ} → terminals c u ≡ true → (t : Trip K m u e) → Inside c u e (rate K t) ⊎ Leaves c u e (rate K t) (lanes K t)
  unfolding rate lanes
  first_pass c h stay = inl (stay, refl)
  first_pass c {u} {e} h (go w s t) =
      ⊎_elim
      (λ z.
      let lane : part c u w ≡ m u w = subst (λ y. part y u w ≡ m u w) z (meet.whole_in_parts u w s).1 in
      let st : Standing K (part c) u w = λ x. s (sym lane ∙ x) in
      ⊎_elim
      (λ p. inl (go w st p.0, ap (λ y. K.join y (rate K p.0)) lane ∙ ap (K.join (m u w)) p.1))
      (λ l. inr (record {
        end = l.end;
        front = go w st l.front;
        back = l.back;
        rates =
            X.join_associative (part c u w) (rate K l.front) (rate K l.back)
            ∙ ap (λ y. K.join y (K.join (rate K l.front) (rate K l.back))) lane
            ∙ ap (K.join (m u w)) l.rates;
        fewer = omega (arith, l.fewer);
      }))
      (first_pass c (meet.lane_to c u w st) t))
      (λ z.
      let lane : part (not c) u w ≡ m u w = subst (λ y. part y u w ≡ m u w) z (meet.whole_in_parts u w s).1 in
      let at = shared c u h (meet.lane_from (not c) u w (λ x. s (sym lane ∙ x))) in
      let f = stay_at {n = part c} u (seam at.0) at.1 in
      let b : (q : Trip K m (seam at.0) e) × (rate K q ≡ K.join (m u w) (rate K t)) × (lanes K q ≤ suc (lanes K t)) = subst (λ x. (q : Trip K m x e) × (rate K q ≡ K.join (m u w) (rate K t)) × (lanes K q ≤ suc (lanes K t))) at.1 (go w s t, refl, omega arith) in
      inr (record {
        end = at.0;
        front = f.0;
        back = b.0;
        rates = ap (λ y. K.join y (rate K b.0)) f.1 ∙ X.still_joins_to_same (rate K b.0) ∙ b.1;
        fewer = omega (arith, b.2);
      }))
      (same_or_other (meet.whole_in_parts u w s).0 c)

  -- From here on: e lies in the part d; T has the best rates between the seam's ends within each part,
  -- E those from the seam's ends to e within d.
  module _ (d : Bool) (e : ℕ) (e_in : terminals d e ≡ true)
      (T : Bool → Bool → Bool → M) (t_best : (c i j : Bool) → Best K X (part c) (seam i) (seam j) (T c i j))
      (E : Bool → M) (e_best : (i : Bool) → Best K X (part d) (seam i) e (E i)) where
    -- the best rate from an end of the seam to e: within d, or through the other part to the other end and then within d
    abbrev from_seam : Bool → M
    from_seam i = better_of K (E i) (K.join (T (not d) i (not i)) (E (not i)))

    t_reached : (c i j : Bool) → Reached K X m (seam i) (seam j) (T c i j)
    t_reached c i j = reached_fewer K X (in_whole c) (t_best c i j).reached

    e_at_seam : (i : Bool) → e ≡ seam i → NoWorse K (E i) K.still
    e_at_seam i z =
        let t = stay_at {n = part d} (seam i) e (sym z) in
        subst (NoWorse K (E i)) t.1 ((e_best i).unbeaten t.0)

    -- round by one end of the seam and back is no better than still
    round : (c c' i : Bool) (r : M) → NoWorse K r (K.join (T c i (not i)) (K.join (T c' (not i) i) r))
    round c c' i r =
        le_trans K X
        (subst (λ y. NoWorse K y (K.join (K.join (T c i (not i)) (T c' (not i) i)) r)) (X.still_joins_to_same r)
        (join_left K X r (closed_reached K X ne (seam i) (reached_join K X (t_reached c i (not i)) (t_reached c' (not i) i)))))
        (le_from K X (K.join (K.join (T c i (not i)) (T c' (not i) i)) r) (K.join (T c i (not i)) (K.join (T c' (not i) i) r))
        (X.join_associative (T c i (not i)) (T c' (not i) i) r))

    other_twice : (i : Bool) → not (not i) ≡ i
    other_twice true = refl
    other_twice false = refl

    -- through a part to the other end and on from there
    across : (c i : Bool) → NoWorse K (from_seam i) (K.join (T c i (not i)) (from_seam (not i)))
    across c i =
        ⊎_elim
        (λ z. subst (λ y. NoWorse K (from_seam i) (K.join (T c i (not i)) y)) (sym z)
        (⊎_elim
        (λ q. subst (λ y. NoWorse K (from_seam i) (K.join (T y i (not i)) (E (not i)))) (sym q)
        (le_trans K X (better_of_first K X (E i) (K.join (T (not d) i (not i)) (E (not i))))
        (unbeaten_reached K X (e_best i).unbeaten (reached_join K X (t_best d i (not i)).reached (e_best (not i)).reached))))
        (λ q. subst (λ y. NoWorse K (from_seam i) (K.join (T y i (not i)) (E (not i)))) (sym q)
        (better_of_second K X (E i) (K.join (T (not d) i (not i)) (E (not i)))))
        (same_or_other c d)))
        (λ z. subst (λ y. NoWorse K (from_seam i) (K.join (T c i (not i)) y)) (sym z)
        (subst (λ k. NoWorse K (from_seam i) (K.join (T c i (not i)) (K.join (T (not d) (not i) k) (E k)))) (sym (other_twice i))
        (le_trans K X (better_of_first K X (E i) (K.join (T (not d) i (not i)) (E (not i)))) (round c (not d) i (E i)))))
        (better_of_either K X (E (not i)) (K.join (T (not d) (not i) (not (not i))) (E (not (not i)))))

    -- the same from an end to an end, the same or the other
    between : (c i j : Bool) → NoWorse K (from_seam i) (K.join (T c i j) (from_seam j))
    between c i j =
        ⊎_elim
        (λ z. subst (λ k. NoWorse K (from_seam i) (K.join (T c i k) (from_seam k))) (sym z)
        (subst (λ y. NoWorse K y (K.join (T c i i) (from_seam i))) (X.still_joins_to_same (from_seam i))
        (join_left K X (from_seam i) (closed_reached K X ne (seam i) (t_reached c i i)))))
        (λ z. subst (λ k. NoWorse K (from_seam i) (K.join (T c i k) (from_seam k))) (sym z) (across c i))
        (same_or_other j i)

    -- a trip within one part from an end of the seam to e
    straight : (c i : Bool) (p : Trip K (part c) (seam i) e) → NoWorse K (from_seam i) (rate K p)
    straight c i p =
        ⊎_elim
        (λ z.
        le_trans K X (better_of_first K X (E i) (K.join (T (not d) i (not i)) (E (not i))))
        (subst (λ y. (q : Trip K (part y) (seam i) e) → NoWorse K (E i) (rate K q)) (sym z) (e_best i).unbeaten p))
        (λ z. subst (λ y. (q : Trip K (part y) (seam i) e) → NoWorse K (from_seam i) (rate K q)) (sym z) (foreign i) p)
        (same_or_other c d)
      where
        -- within the other part, e is an end of the seam
        foreign : (i : Bool) (q : Trip K (part (not d)) (seam i) e) → NoWorse K (from_seam i) (rate K q)
        foreign i q =
            let at = shared d e e_in (end_inside (not d) (meet.seam_in_parts (not d) i) q) in
            le_trans K X (between (not d) i at.0)
            (le_trans K X
            (join_both K X
            (subst (λ y. (t : Trip K (part (not d)) (seam i) y) → NoWorse K (T (not d) i at.0) (rate K t)) (sym at.1) (t_best (not d) i at.0).unbeaten q)
            (le_trans K X (better_of_first K X (E at.0) (K.join (T (not d) at.0 (not at.0)) (E (not at.0)))) (e_at_seam at.0 at.1)))
            (le_from K X (K.join (rate K q) K.still) (rate K q) (join_still K X (rate K q))))

    seam_unbeaten : (n : ℕ) (i : Bool) {u : ℕ} (t : Trip K m u e) → u ≡ seam i → lanes K t ≤ n → NoWorse K (from_seam i) (rate K t)
    unfolding rate lanes
    seam_unbeaten n i stay z l =
        le_trans K X (better_of_first K X (E i) (K.join (T (not d) i (not i)) (E (not i)))) (e_at_seam i z)
    seam_unbeaten zero i (go w s t) z l = absurd (omega arith)
    seam_unbeaten (suc n) i {u} (go w s t) z l =
        let c = (meet.whole_in_parts u w s).0 in
        let lane = (meet.whole_in_parts u w s).1 in
        let st : Standing K (part c) u w = λ x. s (sym lane ∙ x) in
        ⊎_elim
        (λ p.
        le_trans K X
        (subst (λ x. (q : Trip K (part c) x e) → NoWorse K (from_seam i) (rate K q)) (sym z) (straight c i) (go w st p.0))
        (le_from K X (K.join (part c u w) (rate K p.0)) (K.join (m u w) (rate K t)) (ap (λ y. K.join y (rate K p.0)) lane ∙ ap (K.join (m u w)) p.1)))
        (λ v.
        let j = v.end in
        le_trans K X (between c i j)
        (le_trans K X
        (join_both K X
        (subst (λ x. (q : Trip K (part c) x (seam j)) → NoWorse K (T c i j) (rate K q)) (sym z) (t_best c i j).unbeaten (go w st v.front))
        (seam_unbeaten n j v.back refl (omega (arith, v.fewer))))
        (le_from K X (K.join (K.join (part c u w) (rate K v.front)) (rate K v.back)) (K.join (m u w) (rate K t))
        (X.join_associative (part c u w) (rate K v.front) (rate K v.back)
        ∙ ap (λ y. K.join y (K.join (rate K v.front) (rate K v.back))) lane
        ∙ ap (K.join (m u w)) v.rates))))
        (first_pass c (meet.lane_to c u w st) t)

    -- From here on: s lies in the part b, and R has the best rates from s to the seam's ends within b.
    module _ (b : Bool) (s : ℕ) (s_in : terminals b s ≡ true)
        (R : Bool → M) (seam_row_best : (i : Bool) → Best K X (part b) s (seam i) (R i)) where
      -- to an end of the seam, and by it to e
      abbrev to_end : Bool → M
      to_end i = better_of K (R i) (K.join (R (not i)) (T (not b) (not i) i))

      abbrev by_end : Bool → M
      by_end i = K.join (to_end i) (E i)

      abbrev by_ends : M
      by_ends = better_of K (by_end true) (by_end false)

      by_either : (i : Bool) → NoWorse K by_ends (by_end i)
      by_either true = better_of_first K X (by_end true) (by_end false)
      by_either false = better_of_second K X (by_end true) (by_end false)

      by_ends_reached : Reached K X m s e by_ends
      by_ends_reached = reached_better K X (one true) (one false)
        where
          r_reached : (i : Bool) → Reached K X m s (seam i) (R i)
          r_reached i = reached_fewer K X (in_whole b) (seam_row_best i).reached

          one : (i : Bool) → Reached K X m s e (by_end i)
          one i =
              reached_join K X (reached_better K X (r_reached i) (reached_join K X (r_reached (not i)) (t_reached (not b) (not i) i)))
              (reached_fewer K X (in_whole d) (e_best i).reached)

      -- to an end within b, and on from there
      by_first_end : (i : Bool) → NoWorse K by_ends (K.join (R i) (from_seam i))
      by_first_end i =
          ⊎_elim
          (λ z. subst (λ y. NoWorse K by_ends (K.join (R i) y)) (sym z)
          (le_trans K X (by_either i) (join_left K X (E i) (better_of_first K X (R i) (K.join (R (not i)) (T (not b) (not i) i))))))
          (λ z. subst (λ y. NoWorse K by_ends (K.join (R i) y)) (sym z)
          (le_trans K X (by_either (not i))
          (le_trans K X (join_left K X (E (not i)) (to_other_end i))
          (le_from K X (K.join (K.join (R i) (T (not d) i (not i))) (E (not i))) (K.join (R i) (K.join (T (not d) i (not i)) (E (not i))))
          (X.join_associative (R i) (T (not d) i (not i)) (E (not i)))))))
          (better_of_either K X (E i) (K.join (T (not d) i (not i)) (E (not i))))
        where
          to_other_end : (i : Bool) → NoWorse K (to_end (not i)) (K.join (R i) (T (not d) i (not i)))
          to_other_end i =
              ⊎_elim
              (λ z. subst (λ c. NoWorse K (to_end (not i)) (K.join (R i) (T (not c) i (not i)))) (sym z)
              (subst (λ k. NoWorse K (to_end (not i)) (K.join (R k) (T (not b) k (not i)))) (other_twice i)
              (better_of_second K X (R (not i)) (K.join (R (not (not i))) (T (not b) (not (not i)) (not i))))))
              (λ z. subst (λ c. NoWorse K (to_end (not i)) (K.join (R i) (T c i (not i)))) (sym (ap not z ∙ other_twice b))
              (le_trans K X (better_of_first K X (R (not i)) (K.join (R (not (not i))) (T (not b) (not (not i)) (not i))))
              (unbeaten_reached K X (seam_row_best (not i)).unbeaten (reached_join K X (seam_row_best i).reached (t_best b i (not i)).reached))))
              (same_or_other d b)

      leaving_unbeaten : (r : M) (n : ℕ) → Leaves b s e r n → NoWorse K by_ends r
      leaving_unbeaten r n v =
          le_trans K X (by_first_end v.end)
          (le_trans K X
          (join_both K X ((seam_row_best v.end).unbeaten v.front) (seam_unbeaten n v.end v.back refl v.fewer))
          (le_from K X (K.join (rate K v.front) (rate K v.back)) r v.rates))

      -- to a terminal of the own part: within it, or by an end of the seam
      pub own_best : (r : M) → Best K X (part b) s e r → Best K X m s e (better_of K r by_ends)
      own_best r h = record {
        reached = reached_better K X (reached_fewer K X (in_whole b) h.reached) by_ends_reached;
        unbeaten = λ t. ⊎_elim
            (λ p. le_trans K X (better_of_first K X r by_ends) (subst (NoWorse K r) p.1 (h.unbeaten p.0)))
            (λ v. le_trans K X (better_of_second K X r by_ends) (leaving_unbeaten (rate K t) (lanes K t) v))
            (first_pass b s_in t);
      }

      -- to a terminal of the other part: by an end of the seam
      pub other_best : d ≡ not b → Best K X m s e by_ends
      other_best z = record {
        reached = by_ends_reached;
        unbeaten = λ t. ⊎_elim (λ p. subst (NoWorse K by_ends) p.1 (inside_at_seam p.0)) (leaving_unbeaten (rate K t) (lanes K t)) (first_pass b s_in t);
      }
        where
          -- within the own part, e is an end of the seam
          inside_at_seam : (p : Trip K (part b) s e) → NoWorse K by_ends (rate K p)
          inside_at_seam p =
              let at = shared b e (end_inside b s_in p) (subst (λ c. terminals c e ≡ true) z e_in) in
              le_trans K X (by_either at.0)
              (le_trans K X
              (join_both K X (better_of_first K X (R at.0) (K.join (R (not at.0)) (T (not b) (not at.0) at.0))) (e_at_seam at.0 at.1))
              (le_trans K X (le_from K X (K.join (R at.0) K.still) (R at.0) (join_still K X (R at.0)))
              (subst (λ y. (q : Trip K (part b) s y) → NoWorse K (R at.0) (rate K q)) (sym at.1) (seam_row_best at.0).unbeaten p)))
