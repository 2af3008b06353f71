-- Tests on rates, and the steps of a loop that joins or compares a list of them.
-- Assumes the laws.
use Rattle.std.proofs.Common.{◌≡◌, ◌⊎◌, ℕ, ◌+◌, ◌<◌, ◌≤◌, Bool, true, false, not, ◌||◌, List, [], ◌∷◌, ◌++◌, map, length, get_or, take, Decides, sym, refl, ap, ◌∙◌, subst, inl, inr, ⊎_elim, arith, below_more}
use Rattle.std.specs.List.{ContainsAt}
use Rattle.std.proofs.lemmas.List.{map_more, get_or-map}
use Rattle.std.proofs.ByRecursion.{All-push, All-weaker, has_push, has_append_left}
use Rattle.std.proofs.lemmas.Bool.{not-true, not_from_false, or_parts}
use Rattle.rates.specs.Kinds.{Kind, Laws, NoWorse, exact_size}
use Rattle.rates.specs.Many.{better_of, joined_all, sizes, BestOf, FirstBest}
use Rattle.rates.specs.Order.{le_refl, le_better, better_le, le_from, le_trans, le_none, same, join_still, better_of_first, better_of_second, better_of_greatest, better_of_either}

-- before the first turn the place is 0, and later that of the first best
abbrev pub FirstSoFar : {M V : Type 0} → Kind M → (V → M) → List V → ℕ → ℕ → Type 0
FirstSoFar K means vs i k = ((i ≡ 0) × (k ≡ 0)) ⊎ FirstBest K (map means vs) i k

-- the value at a place is that at an equal place
pub stands_there : {V : Type 0} (vs : List V) (i k : ℕ) (v b : V) → b ≡ v → k ≡ i → v ≡ get_or vs i v → b ≡ get_or vs k b
stands_there vs i k v b e f h = subst (λ x. x ≡ get_or vs k x) (sym e) (subst (λ j. v ≡ get_or vs j v) (sym f) h)

module _ {M : Type 0} (K : Kind M) (X : Laws K) where
  pub decides_none : (a : M) (r : Bool) → r ≡ K.better a K.none → Decides (not r) (a ≡ K.none)
  decides_none a r e = (
    λ t. same K X (le_none K X a) (record { fact = sym e ∙ not-true r t }),
    λ z. not_from_false r (e ∙ ap (λ v. K.better v K.none) z ∙ (le_refl K X K.none).fact),
  )

  pub decides_same : (a b : M) (r s : Bool) → r ≡ K.better a b → s ≡ K.better b a → Decides (not (r || s)) (a ≡ b)
  decides_same a b r s e f = (
    λ t. let p = or_parts r s (not-true (r || s) t) in same K X (record { fact = sym f ∙ p.1 }) (record { fact = sym e ∙ p.0 }),
    λ z. not_from_false (r || s) (
        ap (λ v. v || s) (e ∙ (le_from K X b a (sym z)).fact) ∙ f ∙ (le_from K X a b z).fact
        ),
  )

  joined_all_push : (list : List M) (a : M) → joined_all K (list ++ a ∷ []) ≡ K.join (joined_all K list) a
  joined_all_push [] a = join_still K X a ∙ sym (X.still_joins_to_same a)
  joined_all_push (b ∷ rest) a =
      ap (K.join b) (joined_all_push rest a) ∙ sym (X.join_associative b (joined_all K rest) a)

  sizes_push : (list : List M) (a : M) → sizes K (list ++ a ∷ []) ≡ sizes K list + K.size a
  sizes_push [] a = omega arith
  sizes_push (b ∷ rest) a = omega (arith, sizes_push rest a)

  -- a join is no larger than its parts together
  pub joined_all_size : (list : List M) → K.size (joined_all K list) ≤ sizes K list
  joined_all_size [] = omega (arith, X.still_size)
  joined_all_size (b ∷ rest) = omega (arith, X.join_size b (joined_all K rest), joined_all_size rest)

  -- what a loop has joined so far, where the sizes allow it
  abbrev pub Joined : List M → M → Type 0
  Joined list a = sizes K list ≤ exact_size → a ≡ joined_all K list

  joined_push : (list : List M) (a b c : M) → Joined list a → (K.size a + K.size b ≤ exact_size → c ≡ K.join a b) → Joined (list ++ b ∷ []) c
  joined_push list a b c h k s =
      let p = h (omega (arith, sizes_push list b)) in
      k (omega (arith, sizes_push list b, joined_all_size list, ap K.size p)) ∙ ap (λ v. K.join v b) p ∙ sym (joined_all_push list b)

  pub best_none : BestOf K [] K.none
  best_none = record { among = inr (refl, refl); none_better = tt }

  pub best_push : (list : List M) (b a : M) → BestOf K list b → BestOf K (list ++ a ∷ []) (better_of K b a)
  best_push list b a h = record {
    among = inl (⊎_elim
        (λ e. ⊎_elim (λ m. subst (ContainsAt (list ++ a ∷ [])) (sym e) (has_append_left list (a ∷ []) b m))
        (λ n. subst (ContainsAt (list ++ a ∷ [])) (sym (a_is n)) (has_push list a)) h.among)
        (λ e. subst (ContainsAt (list ++ a ∷ [])) (sym e) (has_push list a))
        (better_of_either K X b a));
    none_better = All-push (NoWorse K (better_of K b a)) list a
        (All-weaker (NoWorse K b) (NoWorse K (better_of K b a)) (λ x. le_trans K X (better_of_first K X b a)) list h.none_better)
        (better_of_second K X b a);
  }
    where
      a_is : (list ≡ []) × (b ≡ K.none) → better_of K b a ≡ a
      a_is n =
          same K X (better_of_second K X b a)
          (better_of_greatest K X b a a (subst (NoWorse K a) (sym n.1) (le_none K X a)) (le_refl K X a))

  first_at_0 : (list : List M) → FirstBest K list 1 0
  first_at_0 list = record {
    within = omega arith;
    none_better = λ j l. let z : 0 ≡ j = omega arith in le_from K X (get_or list 0 K.none) (get_or list j K.none) (ap (λ k. get_or list k K.none) z);
    earlier_worse = λ j l. absurd (omega arith);
  }

  first_moves : (list : List M) (i k : ℕ) → FirstBest K list i k → K.better (get_or list i K.none) (get_or list k K.none) ≡ true → FirstBest K list (i + 1) i
  first_moves list i k h e = record {
    within = omega arith;
    none_better = below_more (λ j. NoWorse K (get_or list i K.none) (get_or list j K.none)) i
        (λ j l. le_trans K X (le_better K X e) (h.none_better j l)) (le_refl K X (get_or list i K.none));
    earlier_worse = λ j l. better_le K X e (h.none_better j l);
  }

  first_stays : (list : List M) (i k : ℕ) → FirstBest K list i k → K.better (get_or list i K.none) (get_or list k K.none) ≡ false → FirstBest K list (i + 1) k
  first_stays list i k h e = record {
    within = omega (arith, h.within);
    none_better = below_more (λ j. NoWorse K (get_or list k K.none) (get_or list j K.none)) i h.none_better (record { fact = e });
    earlier_worse = h.earlier_worse;
  }

  module _ {V : Type 0} (means : V → M) where
    pub joined_more : (vs : List V) (i : ℕ) (v all more : V) → i < length vs → v ≡ get_or vs i v → Joined (map means (take i vs)) (means all) → (K.size (means all) + K.size (means v) ≤ exact_size → means more ≡ K.join (means all) (means v)) → Joined (map means (take (i + 1) vs)) (means more)
    joined_more vs i v all more l e h k =
        subst (λ list. Joined list (means more))
        (ap (λ w. map means (take i vs) ++ means w ∷ []) e ∙ sym (map_more means vs i v l))
        (joined_push (map means (take i vs)) (means all) (means v) (means more) h k)

    pub best_more : (vs : List V) (i : ℕ) (v b : V) (c : M) → i < length vs → v ≡ get_or vs i v → BestOf K (map means (take i vs)) (means b) → c ≡ better_of K (means b) (means v) → BestOf K (map means (take (i + 1) vs)) c
    best_more vs i v b c l e h k =
        subst (λ list. BestOf K list c)
        (ap (λ w. map means (take i vs) ++ means w ∷ []) e ∙ sym (map_more means vs i v l))
        (subst (BestOf K (map means (take i vs) ++ means v ∷ [])) (sym k) (best_push (map means (take i vs)) (means b) (means v) h))

    pub first_best_0 : (vs : List V) → FirstBest K (map means vs) 1 0
    first_best_0 vs = first_at_0 (map means vs)

    -- the test of two values is that of their members
    tested : (vs : List V) (i k : ℕ) (v w : V) (r : Bool) → i < length vs → k < length vs → v ≡ get_or vs i v → w ≡ get_or vs k w → r ≡ K.better (means v) (means w) → K.better (get_or (map means vs) i K.none) (get_or (map means vs) k K.none) ≡ r
    tested vs i k v w r l m e f t =
        ap (λ x. K.better x (get_or (map means vs) k K.none)) (get_or-map means vs i v K.none l ∙ ap means (sym e))
        ∙ ap (K.better (means v)) (get_or-map means vs k w K.none m ∙ ap means (sym f))
        ∙ sym t

    pub first_best_moves : (vs : List V) (i k : ℕ) (v w : V) (r : Bool) → i < length vs → k < length vs → v ≡ get_or vs i v → w ≡ get_or vs k w → r ≡ K.better (means v) (means w) → r ≡ true → FirstBest K (map means vs) i k → FirstBest K (map means vs) (i + 1) i
    first_best_moves vs i k v w r l m e f t z h = first_moves (map means vs) i k h (tested vs i k v w r l m e f t ∙ z)

    pub first_best_stays : (vs : List V) (i k : ℕ) (v w : V) (r : Bool) → i < length vs → k < length vs → v ≡ get_or vs i v → w ≡ get_or vs k w → r ≡ K.better (means v) (means w) → r ≡ false → FirstBest K (map means vs) i k → FirstBest K (map means vs) (i + 1) k
    first_best_stays vs i k v w r l m e f t z h = first_stays (map means vs) i k h (tested vs i k v w r l m e f t ∙ z)

    pub moves_so_far : (vs : List V) (i k : ℕ) (v w : V) (r : Bool) → i < length vs → k < length vs → v ≡ get_or vs i v → w ≡ get_or vs k w → r ≡ K.better (means v) (means w) → r ≡ true → FirstSoFar K means vs i k → FirstSoFar K means vs (i + 1) i
    moves_so_far vs i k v w r l m e f t z h =
        inr (⊎_elim
        (λ s. subst (λ j. FirstBest K (map means vs) (j + 1) j) (sym s.0) (first_best_0 vs))
        (first_best_moves vs i k v w r l m e f t z) h)

    pub stays_so_far : (vs : List V) (i k : ℕ) (v w : V) (r : Bool) → i < length vs → k < length vs → v ≡ get_or vs i v → w ≡ get_or vs k w → r ≡ K.better (means v) (means w) → r ≡ false → FirstSoFar K means vs i k → FirstSoFar K means vs (i + 1) k
    stays_so_far vs i k v w r l m e f t z h =
        inr (⊎_elim
        (λ s. subst (λ j. FirstBest K (map means vs) (j + 1) k) (sym s.0) (subst (FirstBest K (map means vs) 1) (sym s.1) (first_best_0 vs)))
        (first_best_stays vs i k v w r l m e f t z) h)

    pub so_far_at_last : (vs : List V) (k : ℕ) → 0 < length vs → FirstSoFar K means vs (length vs) k → FirstBest K (map means vs) (length vs) k
    so_far_at_last vs k l h = ⊎_elim (λ s. absurd (omega (arith, s.0))) (λ b. b) h
