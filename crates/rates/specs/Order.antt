-- What follows from the laws of a kind of rate alone: the order, none, and the better of two.
-- Assumes the laws.
use Rattle.std.specs.Prelude.{◌≡◌, true, T, ◌⊎◌, ◌≢◌, refl}
use Rattle.std.proofs.Common.{sym, ap, subst, ◌∙◌, inl, inr, ⊎_elim}
use Rattle.std.proofs.lemmas.Bool.{cases_Bool, cond_both, both_ways}
use Rattle.rates.specs.Kinds.{Kind, Laws, NoWorse, stands}
use Rattle.rates.specs.Many.{better_of}

module _ {M : Type 0} (K : Kind M) (X : Laws K) where
  pub le_refl : (a : M) → NoWorse K a a
  le_refl a = ⊎_elim (λ h. h) (λ h. h) (X.order_total a a)

  pub le_from : (a b : M) → a ≡ b → NoWorse K a b
  le_from a b e = subst (λ x. NoWorse K a x) e (le_refl a)

  pub le_trans : {a b c : M} → NoWorse K a b → NoWorse K b c → NoWorse K a c
  le_trans {a} {b} {c} h k = X.order_transitive a b c h k

  pub same : {a b : M} → NoWorse K a b → NoWorse K b a → a ≡ b
  same {a} {b} h k = X.neither_better_same a b h k

  -- the better one is no worse
  pub le_better : {a b : M} → K.better a b ≡ true → NoWorse K a b
  le_better {a} {b} e = ⊎_elim (λ h. h) (λ h. absurd (both_ways (K.better a b) h.fact e)) (X.order_total a b)

  -- where a is not better than b, b is no worse
  pub le_or_better : (a b : M) → NoWorse K a b ⊎ (K.better b a ≡ true)
  le_or_better a b = ⊎_elim (λ e. inr e) (λ e. inl (record { fact = e })) (cases_Bool (K.better b a))

  pub not_both : {a b : M} → K.better a b ≡ true → NoWorse K b a → ⊥
  not_both {a} {b} e h = both_ways (K.better a b) h.fact e

  pub better_le : {a b c : M} → K.better a b ≡ true → NoWorse K b c → K.better a c ≡ true
  better_le {a} {b} {c} e h =
      ⊎_elim (λ k. absurd (not_both e (le_trans h k))) (λ k. k) (le_or_better c a)

  pub le_better_trans : {a b c : M} → NoWorse K a b → K.better b c ≡ true → K.better a c ≡ true
  le_better_trans {a} {b} {c} h e =
      ⊎_elim (λ k. absurd (not_both e (le_trans k h))) (λ k. k) (le_or_better c a)

  -- better, the same, or worse
  pub three_ways : (a b : M) → (K.better a b ≡ true) ⊎ ((a ≡ b) ⊎ (K.better b a ≡ true))
  three_ways a b =
      ⊎_elim
      (λ h. ⊎_elim (λ k. inr (inl (same h k))) inl (le_or_better b a))
      (λ e. inr (inr e))
      (le_or_better a b)

  pub join_right : {a b : M} (c : M) → NoWorse K a b → NoWorse K (K.join c a) (K.join c b)
  join_right {a} {b} c h =
      subst (λ x. NoWorse K x (K.join c b)) (X.join_commutative a c)
      (subst (λ x. NoWorse K (K.join a c) x) (X.join_commutative b c) (X.join_keeps_order a b c h))

  pub join_left : {a b : M} (c : M) → NoWorse K a b → NoWorse K (K.join a c) (K.join b c)
  join_left {a} {b} c h = X.join_keeps_order a b c h

  pub join_both : {a b c d : M} → NoWorse K a b → NoWorse K c d → NoWorse K (K.join a c) (K.join b d)
  join_both {a} {b} {c} {d} h k = le_trans (join_left c h) (join_right b k)

  pub join_still : (a : M) → K.join a K.still ≡ a
  join_still a = X.join_commutative a K.still ∙ X.still_joins_to_same a

  pub join_none : (a : M) → K.join a K.none ≡ K.none
  join_none a = X.join_commutative a K.none ∙ X.none_absorbs a

  -- (a b) c in another order: a (b c) is b (a c)
  pub left_commutative : (a b c : M) → K.join a (K.join b c) ≡ K.join b (K.join a c)
  left_commutative a b c =
      sym (X.join_associative a b c) ∙ ap (λ x. K.join x c) (X.join_commutative a b) ∙ X.join_associative b a c

  -- none is no better than anything
  pub le_none : (a : M) → NoWorse K a K.none
  le_none a =
      ⊎_elim (λ h. h)
      (λ e. le_better (X.none_worst a (λ z. not_both {a = K.none} {b = a} e (le_from a K.none z))))
      (le_or_better a K.none)

  pub stands_from : {a : M} → (a ≢ K.none) → T (stands K a)
  stands_from {a} h = subst T (sym (X.none_worst a h)) tt

  pub none_stands_not : {a : M} → T (stands K a) → a ≢ K.none
  none_stands_not {a} t e =
      subst T (le_from K.none K.none refl).fact (subst (λ x. T (stands K x)) e t)

  pub none_or_stands : (a : M) → (a ≡ K.none) ⊎ T (stands K a)
  none_or_stands a =
      ⊎_elim (λ e. inr (subst T (sym e) tt)) (λ e. inl (same (le_none a) (record { fact = e })))
      (cases_Bool (K.better a K.none))

  -- what is no worse than a standing member stands
  pub stands_up : {a b : M} → NoWorse K a b → (b ≢ K.none) → a ≢ K.none
  stands_up {a} {b} h n e = n (same (le_none b) (subst (λ x. NoWorse K x b) e h))

  -- the better of two is no worse than either, and what is no worse than both is no worse than it
  pub better_of_first : (a b : M) → NoWorse K (better_of K a b) a
  better_of_first a b = cond_both (K.better b a) b a (λ x. NoWorse K x a) (λ e. le_better e) (λ e. le_refl a)

  pub better_of_second : (a b : M) → NoWorse K (better_of K a b) b
  better_of_second a b =
      cond_both (K.better b a) b a (λ x. NoWorse K x b) (λ e. le_refl b) (λ e. record { fact = e })

  pub better_of_greatest : (a b c : M) → NoWorse K c a → NoWorse K c b → NoWorse K c (better_of K a b)
  better_of_greatest a b c h k = cond_both (K.better b a) b a (λ x. NoWorse K c x) (λ e. k) (λ e. h)

  -- it is one of the two
  pub better_of_either : (a b : M) → (better_of K a b ≡ a) ⊎ (better_of K a b ≡ b)
  better_of_either a b =
      cond_both (K.better b a) b a (λ x. (x ≡ a) ⊎ (x ≡ b)) (λ e. inr refl) (λ e. inl refl)
