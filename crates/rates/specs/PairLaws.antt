-- A pair of a strict kind before any kind keeps the laws of a kind of rate.
-- Assumes the laws of both kinds, and that the first is strict.
use Rattle.std.specs.Prelude.{◌≡◌, ℕ, ◌+◌, ◌≤◌, Bool, true, false, cond, T, ◌⊎◌, ◌≢◌, refl}
use Rattle.std.proofs.Common.{sym, ap, subst, ◌∙◌, true≢false, inl, inr, ⊎_elim, arith}
use Rattle.std.proofs.lemmas.Bool.{and_parts, false≢true}
use Rattle.rates.specs.Kinds.{Kind, Laws, Strictness, NoWorse, stands}
use Rattle.rates.specs.Pairs.{Other, Couple, by_tests, couple_of, joined, before, couple_size, both_lane_rates, pair_kind}
use Rattle.rates.specs.Pairs.Couple.{no_couple, couple}
use Rattle.rates.specs.Such.{such_same}
use Rattle.rates.specs.Order.{le_trans, le_better, not_both, better_le, three_ways, stands_from, none_stands_not, le_from}

-- the join of two members other than none is another such
abbrev other_join : {M : Type 0} (K : Kind M) → Laws K → Other K → Other K → Other K
other_join K X a b = record {
  value = K.join a.value b.value;
  passes = stands_from K X (λ e.
      ⊎_elim (none_stands_not K X a.passes) (none_stands_not K X b.passes)
      (X.others_never_join_to_none a.value b.value e));
}

abbrev other_still : {M : Type 0} (K : Kind M) → Laws K → Other K
other_still K X = record { value = K.still; passes = stands_from K X X.still_not_none }

module _ {M N : Type 0} (K : Kind M) (L : Kind N) (X : Laws K) (Y : Laws L) where
  couple_same : (a c : Other K) (b d : Other L) → a.value ≡ c.value → b.value ≡ d.value → ◌≡◌ {A = Couple K L} (couple a b) (couple c d)
  couple_same a c b d p q =
      ap (λ x. couple x b) (such_same (stands K) a c p) ∙ ap (λ y. couple c y) (such_same (stands L) b d q)

  tests_pass : (a : M) (b : N) (x y : Bool) (p : T x → T (stands K a)) (q : T y → T (stands L b)) (s : T x) (t : T y)
      → by_tests K L a b x y p q ≡ couple (record { value = a; passes = p s }) (record { value = b; passes = q t })
  tests_pass a b true true p q s t = refl
  tests_pass a b true false p q s t = absurd t
  tests_pass a b false y p q s t = absurd s

  -- a couple is that of its parts
  pub couple_of_parts : (a : Other K) (b : Other L) → couple_of K L a.value b.value ≡ couple a b
  couple_of_parts a b = tests_pass a.value b.value (stands K a.value) (stands L b.value) (λ t. t) (λ t. t) a.passes b.passes

  joined_is : (a c : Other K) (b d : Other L) → joined K L (couple a b) (couple c d) ≡ couple (other_join K X a c) (other_join L Y b d)
  joined_is a c b d = couple_of_parts (other_join K X a c) (other_join L Y b d)

  still_is : (pair_kind K L).still ≡ couple (other_still K X) (other_still L Y)
  still_is = couple_of_parts (other_still K X) (other_still L Y)

  abbrev couple_kind : Kind (Couple K L)
  couple_kind = pair_kind K L

  associative : (x y z : Couple K L) → joined K L (joined K L x y) z ≡ joined K L x (joined K L y z)
  associative no_couple y z = refl
  associative (couple a b) no_couple z = refl
  associative (couple a b) (couple c d) no_couple = ap (λ v. joined K L v no_couple) (joined_is a c b d)
  associative (couple a b) (couple c d) (couple e f) =
      ap (λ v. joined K L v (couple e f)) (joined_is a c b d)
      ∙ joined_is (other_join K X a c) e (other_join L Y b d) f
      ∙ couple_same (other_join K X (other_join K X a c) e) (other_join K X a (other_join K X c e)) (other_join L Y (other_join L Y b d) f) (other_join L Y b (other_join L Y d f))
      (X.join_associative a.value c.value e.value) (Y.join_associative b.value d.value f.value)
      ∙ sym (ap (λ v. joined K L (couple a b) v) (joined_is c e d f) ∙ joined_is a (other_join K X c e) b (other_join L Y d f))

  commutative : (x y : Couple K L) → joined K L x y ≡ joined K L y x
  commutative no_couple no_couple = refl
  commutative no_couple (couple c d) = refl
  commutative (couple a b) no_couple = refl
  commutative (couple a b) (couple c d) =
      ap (λ v. couple_of K L v (L.join b.value d.value)) (X.join_commutative a.value c.value)
      ∙ ap (λ v. couple_of K L (K.join c.value a.value) v) (Y.join_commutative b.value d.value)

  unit : (x : Couple K L) → joined K L couple_kind.still x ≡ x
  unit no_couple = ap (λ v. joined K L v no_couple) still_is
  unit (couple a b) =
      ap (λ v. joined K L v (couple a b)) still_is
      ∙ joined_is (other_still K X) a (other_still L Y) b
      ∙ couple_same (other_join K X (other_still K X) a) a (other_join L Y (other_still L Y) b) b
      (X.still_joins_to_same a.value) (Y.still_joins_to_same b.value)

  -- no worse, by the first parts, and between equal firsts by the second
  abbrev Lexical : (a : M) (b : N) (c : M) (d : N) → Type 0
  Lexical a b c d = (K.better a c ≡ true) ⊎ ((a ≡ c) × NoWorse L b d)

  by_firsts : (x y z : Bool) → cond x true (cond y false z) ≡ false → (y ≡ true) ⊎ ((x ≡ false) × (y ≡ false) × (z ≡ false))
  by_firsts true y z e = absurd (true≢false e)
  by_firsts false true z e = inl refl
  by_firsts false false z e = inr (refl, refl, e)

  lexical : (a c : Other K) (b d : Other L) → NoWorse couple_kind (couple a b) (couple c d) → Lexical a.value b.value c.value d.value
  lexical a c b d h =
      ⊎_elim inl
      (λ t. inr (X.neither_better_same a.value c.value (record { fact = t.0 }) (record { fact = t.1 }), record { fact = t.2 }))
      (by_firsts (K.better c.value a.value) (K.better a.value c.value) (L.better d.value b.value) h.fact)

  firsts : (x y z : Bool) → x ≡ false → (y ≡ true) ⊎ (z ≡ false) → cond x true (cond y false z) ≡ false
  firsts true y z e h = absurd (true≢false e)
  firsts false true z e h = refl
  firsts false false z e (inl h) = absurd (false≢true h)
  firsts false false z e (inr h) = h

  of_lexical : (a c : Other K) (b d : Other L) → Lexical a.value b.value c.value d.value → NoWorse couple_kind (couple a b) (couple c d)
  of_lexical a c b d (inl e) = record {
    fact = firsts (K.better c.value a.value) (K.better a.value c.value) (L.better d.value b.value) (le_better K X e).fact (inl e);
  }
  of_lexical a c b d (inr (e, h)) = record {
    fact = firsts (K.better c.value a.value) (K.better a.value c.value) (L.better d.value b.value) (le_from K X a.value c.value e).fact (inr h.fact);
  }

  no_couple_worst : (x : Couple K L) → NoWorse couple_kind x no_couple
  no_couple_worst x = record { fact = refl }

  total : (x y : Couple K L) → NoWorse couple_kind x y ⊎ NoWorse couple_kind y x
  total no_couple y = inr (no_couple_worst y)
  total (couple a b) no_couple = inl (no_couple_worst (couple a b))
  total (couple a b) (couple c d) =
      ⊎_elim (λ e. inl (of_lexical a c b d (inl e)))
      (⊎_elim
      (λ e. ⊎_elim (λ h. inl (of_lexical a c b d (inr (e, h)))) (λ h. inr (of_lexical c a d b (inr (sym e, h)))) (Y.order_total b.value d.value))
      (λ e. inr (of_lexical c a d b (inl e))))
      (three_ways K X a.value c.value)

  lexical_trans : (a : M) (b : N) (c : M) (d : N) (e : M) (f : N) → Lexical a b c d → Lexical c d e f → Lexical a b e f
  lexical_trans a b c d e f (inl p) (inl q) = inl (better_le K X p (le_better K X q))
  lexical_trans a b c d e f (inl p) (inr (q, h)) = inl (subst (λ v. K.better a v ≡ true) q p)
  lexical_trans a b c d e f (inr (p, h)) (inl q) = inl (subst (λ v. K.better v e ≡ true) (sym p) q)
  lexical_trans a b c d e f (inr (p, h)) (inr (q, k)) = inr (p ∙ q, le_trans L Y h k)

  transitive : (x y z : Couple K L) → NoWorse couple_kind x y → NoWorse couple_kind y z → NoWorse couple_kind x z
  transitive x y no_couple h k = no_couple_worst x
  transitive x no_couple (couple e f) h k = absurd (true≢false k.fact)
  transitive no_couple (couple c d) (couple e f) h k = absurd (true≢false h.fact)
  transitive (couple a b) (couple c d) (couple e f) h k =
      of_lexical a e b f (lexical_trans a.value b.value c.value d.value e.value f.value (lexical a c b d h) (lexical c e d f k))

  lexical_same : (a : M) (b : N) (c : M) (d : N) → Lexical a b c d → Lexical c d a b → (a ≡ c) × (b ≡ d)
  lexical_same a b c d (inl p) (inl q) = absurd (not_both K X p (le_better K X q))
  lexical_same a b c d (inl p) (inr (q, h)) = absurd (not_both K X p (le_from K X c a q))
  lexical_same a b c d (inr (p, h)) (inl q) = absurd (not_both K X q (le_from K X a c p))
  lexical_same a b c d (inr (p, h)) (inr (q, k)) = (p, Y.neither_better_same b d h k)

  same_couple : (x y : Couple K L) → NoWorse couple_kind x y → NoWorse couple_kind y x → x ≡ y
  same_couple no_couple no_couple h k = refl
  same_couple no_couple (couple c d) h k = absurd (true≢false h.fact)
  same_couple (couple a b) no_couple h k = absurd (true≢false k.fact)
  same_couple (couple a b) (couple c d) h k =
      let e = lexical_same a.value b.value c.value d.value (lexical a c b d h) (lexical c a d b k) in
      couple_same a c b d e.0 e.1

  worst : (x : Couple K L) → (x ≢ no_couple) → before K L x no_couple ≡ true
  worst no_couple h = absurd (h refl)
  worst (couple a b) h = refl

  couple_stands : (a : Other K) (b : Other L) → ◌≡◌ {A = Couple K L} (couple a b) no_couple → ⊥
  couple_stands a b e = let z : ◌≡◌ {A = ℕ} 0 1 = cc in omega arith

  never_none : (x y : Couple K L) → joined K L x y ≡ no_couple → (x ≡ no_couple) ⊎ (y ≡ no_couple)
  never_none no_couple y e = inl refl
  never_none (couple a b) no_couple e = inr refl
  never_none (couple a b) (couple c d) e =
      absurd (couple_stands (other_join K X a c) (other_join L Y b d) (sym (joined_is a c b d) ∙ e))

  size_joined : (x y : Couple K L) → couple_size K L (joined K L x y) ≤ couple_size K L x + couple_size K L y
  size_joined no_couple y = omega arith
  size_joined (couple a b) no_couple = omega arith
  size_joined (couple a b) (couple c d) =
      subst (λ v. couple_size K L v ≤ couple_size K L (couple a b) + couple_size K L (couple c d)) (sym (joined_is a c b d))
      (omega (arith, X.join_size a.value c.value, Y.join_size b.value d.value))

  still_size : couple_size K L couple_kind.still ≡ 0
  still_size =
      ap (couple_size K L) still_is ∙ omega (arith, X.still_size, Y.still_size)

  lane_size : (x : Couple K L) → both_lane_rates K L x ≡ true → couple_size K L x ≤ 1000000000
  lane_size no_couple e = omega arith
  lane_size (couple a b) e =
      let p = and_parts (K.lane a.value) (L.lane b.value) e in
      omega (arith, X.lane_rate_size a.value p.0, Y.lane_rate_size b.value p.1, X.limit_bounded, Y.limit_bounded)

  lane_stands : (x : Couple K L) → both_lane_rates K L x ≡ true → x ≢ no_couple
  lane_stands no_couple e h = false≢true e
  lane_stands (couple a b) e h = couple_stands a b h

  module _ (S : Strictness K) where
    lexical_join : (a : M) (b : N) (c : M) (d : N) (e : Other K) (f : N) → Lexical a b c d → Lexical (K.join a e.value) (L.join b f) (K.join c e.value) (L.join d f)
    lexical_join a b c d e f (inl p) = inl (S.join_keeps_better a c e.value p (none_stands_not K X e.passes))
    lexical_join a b c d e f (inr (p, h)) = inr (ap (λ v. K.join v e.value) p, Y.join_keeps_order b d f h)

    monotone : (x y z : Couple K L) → NoWorse couple_kind x y → NoWorse couple_kind (joined K L x z) (joined K L y z)
    monotone x no_couple z h = no_couple_worst (joined K L x z)
    monotone no_couple (couple c d) z h = absurd (true≢false h.fact)
    monotone (couple a b) (couple c d) no_couple h = no_couple_worst no_couple
    monotone (couple a b) (couple c d) (couple e f) h =
        subst (λ v. NoWorse couple_kind v (joined K L (couple c d) (couple e f))) (sym (joined_is a e b f))
        (subst (λ v. NoWorse couple_kind (couple (other_join K X a e) (other_join L Y b f)) v) (sym (joined_is c e d f))
        (of_lexical (other_join K X a e) (other_join K X c e) (other_join L Y b f) (other_join L Y d f)
        (lexical_join a.value b.value c.value d.value e f.value (lexical a c b d h))))

    pub pair_laws : Laws couple_kind
    pair_laws = record {
      join_associative = associative;
      join_commutative = commutative;
      still_joins_to_same = unit;
      order_total = total;
      order_transitive = transitive;
      neither_better_same = same_couple;
      join_keeps_order = monotone;
      none_worst = worst;
      still_not_none = λ e. couple_stands (other_still K X) (other_still L Y) (sym still_is ∙ e);
      none_absorbs = λ x. refl;
      others_never_join_to_none = never_none;
      join_size = size_joined;
      still_size = still_size;
      none_size = refl;
      lane_rate_size = lane_size;
      limit_bounded = omega arith;
      lane_rate_not_none = lane_stands;
    }
