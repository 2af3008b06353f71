-- Cents keep the laws of a kind of rate.
-- Assumes nothing.
use Rattle.std.specs.Prelude.{◌≡◌, ℕ, ◌+◌, ◌≤◌, true, ◌⊎◌, ℤ, pos, negsuc, ◌+ℤ◌, ◌≢◌, int_le, refl}
use Rattle.std.proofs.Common.{ap, true≢false, inl, inr, arith}
use Rattle.std.proofs.lemmas.Int.{ints, by_lt_z}
use Rattle.std.proofs.lemmas.Bool.{and_parts, false≢true}
use Rattle.rates.specs.Kinds.{Laws, Strictness, NoWorse}
use Rattle.rates.specs.Amounts.{Amount, cents_kind, sum, less, magnitude, is_lane_amount}
use Rattle.rates.specs.Amounts.Amount.{no_amount, whole}

associative : (a b c : Amount) → sum (sum a b) c ≡ sum a (sum b c)
associative no_amount b c = refl
associative (whole x) no_amount c = refl
associative (whole x) (whole y) no_amount = refl
associative (whole x) (whole y) (whole z) = ap whole (omega (arith, ints))

commutative : (a b : Amount) → sum a b ≡ sum b a
commutative no_amount no_amount = refl
commutative no_amount (whole y) = refl
commutative (whole x) no_amount = refl
commutative (whole x) (whole y) = ap whole (omega (arith, ints))

unit : (a : Amount) → sum (whole (pos 0)) a ≡ a
unit no_amount = refl
unit (whole x) = ap whole (omega (arith, ints))

total : (a b : Amount) → NoWorse cents_kind a b ⊎ NoWorse cents_kind b a
total no_amount b = inr (record { fact = refl })
total (whole x) no_amount = inl (record { fact = refl })
total (whole x) (whole y) = by_lt_z x y (λ l. inl (record { fact = grind (arith, ints) })) (λ l. inr (record { fact = grind (arith, ints) }))

transitive : (a b c : Amount) → NoWorse cents_kind a b → NoWorse cents_kind b c → NoWorse cents_kind a c
transitive a b no_amount h k = record { fact = refl }
transitive a no_amount (whole z) h k = absurd (true≢false k.fact)
transitive no_amount (whole y) (whole z) h k = absurd (true≢false h.fact)
transitive (whole x) (whole y) (whole z) h k = record { fact = grind (arith, ints, h.fact, k.fact) }

same : (a b : Amount) → NoWorse cents_kind a b → NoWorse cents_kind b a → a ≡ b
same no_amount no_amount h k = refl
same no_amount (whole y) h k = absurd (true≢false h.fact)
same (whole x) no_amount h k = absurd (true≢false k.fact)
same (whole x) (whole y) h k = ap whole (grind (arith, ints, h.fact, k.fact))

monotone : (a b c : Amount) → NoWorse cents_kind a b → NoWorse cents_kind (sum a c) (sum b c)
monotone a no_amount c h = record { fact = refl }
monotone no_amount (whole y) c h = absurd (true≢false h.fact)
monotone (whole x) (whole y) no_amount h = record { fact = refl }
monotone (whole x) (whole y) (whole z) h = record { fact = grind (arith, ints, h.fact) }

worst : (a : Amount) → (a ≢ no_amount) → less a no_amount ≡ true
worst no_amount h = absurd (h refl)
worst (whole x) h = refl

whole_stands : (x : ℤ) → whole x ≢ no_amount
whole_stands x e = let z : ◌≡◌ {A = ℕ} 0 1 = cc in omega arith

never_none : (a b : Amount) → sum a b ≡ no_amount → (a ≡ no_amount) ⊎ (b ≡ no_amount)
never_none no_amount b e = inl refl
never_none (whole x) no_amount e = inr refl
never_none (whole x) (whole y) e = absurd (whole_stands (x +ℤ y) e)

sizes : (a b : Amount) → magnitude (sum a b) ≤ magnitude a + magnitude b
sizes no_amount b = omega arith
sizes (whole x) no_amount = omega arith
sizes (whole x) (whole y) = grind (arith, ints)

lane_size : (a : Amount) → is_lane_amount a ≡ true → magnitude a ≤ 1000000000
lane_size no_amount e = absurd (false≢true e)
lane_size (whole x) e =
    let p = and_parts (int_le (negsuc 999999999) x) (int_le x (pos 1000000000)) e in
    grind (arith, ints, p.0, p.1)

lane_stands : (a : Amount) → is_lane_amount a ≡ true → a ≢ no_amount
lane_stands no_amount e h = false≢true e
lane_stands (whole x) e h = whole_stands x h

pub cents_laws : Laws cents_kind
cents_laws = record {
  join_associative = associative;
  join_commutative = commutative;
  still_joins_to_same = unit;
  order_total = total;
  order_transitive = transitive;
  neither_better_same = same;
  join_keeps_order = monotone;
  none_worst = worst;
  still_not_none = whole_stands (pos 0);
  none_absorbs = λ a. refl;
  others_never_join_to_none = never_none;
  join_size = sizes;
  still_size = refl;
  none_size = refl;
  lane_rate_size = lane_size;
  limit_bounded = omega arith;
  lane_rate_not_none = lane_stands;
}

keeps_better : (a b c : Amount) → less a b ≡ true → (c ≢ no_amount) → less (sum a c) (sum b c) ≡ true
keeps_better a b no_amount e n = absurd (n refl)
keeps_better no_amount b (whole z) e n = absurd (false≢true e)
keeps_better (whole x) no_amount (whole z) e n = refl
keeps_better (whole x) (whole y) (whole z) e n = grind (arith, ints, e)

pub cents_strict : Strictness cents_kind
cents_strict = record { join_keeps_better = keeps_better }
