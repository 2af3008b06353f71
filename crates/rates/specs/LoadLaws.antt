-- Tonnes keep the laws of a kind of rate.
-- Assumes nothing.
use Rattle.std.specs.Prelude.{◌≡◌, ℕ, ◌≤◌, min, true, cond, ◌⊎◌, ◌≢◌, nat_le, nat_lt, refl}
use Rattle.std.proofs.Common.{ap, sym, ◌∙◌, inl, inr, ⊎_elim, arith, leb→le}
use Rattle.std.proofs.lemmas.Bool.Decides.{nat_tests}
use Rattle.std.proofs.lemmas.Bool.{ltb-true, ltb-false, lt-ltb, le-ltb, cases_lt, cond_both, false≢true}
use Rattle.rates.specs.Kinds.{Laws, NoWorse}
use Rattle.rates.specs.Loads.{Limited, most_tonnes, Load, tonnes_kind, lesser, more, is_lane_load}
use Rattle.rates.specs.Such.{such_same}
use Rattle.rates.specs.Loads.Load.{up_to, unlimited}

-- A load is known by one number: its tonnes, or one more than the most for unlimited.
abbrev rank : Load → ℕ
rank (up_to n) = n.value
rank unlimited = 1000000001

rank_below : (n : Limited) → n.value ≤ 1000000000
rank_below n = leb→le n.value 1000000000 n.passes

rank_same : (a b : Load) → rank a ≡ rank b → a ≡ b
rank_same (up_to m) (up_to n) e = ap up_to (such_same (λ k. nat_le k most_tonnes) m n e)
rank_same (up_to m) unlimited e = absurd (omega (arith, rank_below m))
rank_same unlimited (up_to n) e = absurd (omega (arith, rank_below n))
rank_same unlimited unlimited e = refl

rank_lesser : (a b : Load) → rank (lesser a b) ≡ min (rank a) (rank b)
rank_lesser unlimited unlimited = refl
rank_lesser unlimited (up_to n) = omega (arith, rank_below n)
rank_lesser (up_to m) unlimited = omega (arith, rank_below m)
rank_lesser (up_to m) (up_to n) = grind (arith, nat_tests)

more_rank : (a b : Load) → more a b ≡ nat_lt (rank b) (rank a)
more_rank unlimited unlimited = refl
more_rank (up_to m) unlimited = grind (arith, nat_tests, rank_below m)
more_rank unlimited (up_to n) = grind (arith, nat_tests, rank_below n)
more_rank (up_to m) (up_to n) = refl

less_of : {a b : Load} → NoWorse tonnes_kind a b → rank b ≤ rank a
less_of {a} {b} h = ltb-false (rank a) (rank b) (sym (more_rank b a) ∙ h.fact)

of_less : {a b : Load} → rank b ≤ rank a → NoWorse tonnes_kind a b
of_less {a} {b} h = record { fact = more_rank b a ∙ le-ltb (rank a) (rank b) h }

never_none : (a b : Load) → rank (lesser a b) ≡ 0 → (rank a ≡ 0) ⊎ (rank b ≡ 0)
never_none a b e = ⊎_elim (λ h. inl (omega (arith, rank_lesser a b))) (λ h. inr (omega (arith, rank_lesser a b))) (cases_lt (rank a) (rank b))

abbrev nothing : Load
nothing = tonnes_kind.none

worst : (a : Load) → (a ≢ nothing) → more a nothing ≡ true
worst a h =
    ⊎_elim (λ l. more_rank a nothing ∙ lt-ltb 0 (rank a) l) (λ l. absurd (h (rank_same a nothing (omega arith))))
    (cases_lt 0 (rank a))

lane_stands : (a : Load) → is_lane_load a ≡ true → rank a ≢ 0
lane_stands unlimited e h = false≢true e
lane_stands (up_to n) e h = omega (arith, ltb-true 0 n.value e)

pub tonnes_laws : Laws tonnes_kind
tonnes_laws = record {
  join_associative = λ a b c. rank_same (lesser (lesser a b) c) (lesser a (lesser b c)) (omega (arith, rank_lesser (lesser a b) c, rank_lesser a b, rank_lesser a (lesser b c), rank_lesser b c));
  join_commutative = λ a b. rank_same (lesser a b) (lesser b a) (omega (arith, rank_lesser a b, rank_lesser b a));
  still_joins_to_same = λ a. refl;
  order_total = λ a b. ⊎_elim (λ h. inr (of_less (omega arith))) (λ h. inl (of_less h)) (cases_lt (rank a) (rank b));
  order_transitive = λ a b c h k. of_less (omega (arith, less_of h, less_of k));
  neither_better_same = λ a b h k. rank_same a b (omega (arith, less_of h, less_of k));
  join_keeps_order = λ a b c h. of_less (omega (arith, less_of h, rank_lesser a c, rank_lesser b c));
  none_worst = worst;
  still_not_none = λ e. let z : ◌≡◌ {A = ℕ} 1000000001 0 = ap rank e in omega arith;
  none_absorbs = λ a. rank_same (lesser nothing a) nothing (omega (arith, rank_lesser nothing a));
  others_never_join_to_none = λ a b e. ⊎_elim (λ z. inl (rank_same a nothing z)) (λ z. inr (rank_same b nothing z)) (never_none a b (ap rank e));
  join_size = λ a b. omega arith;
  still_size = refl;
  none_size = refl;
  lane_rate_size = λ a e. omega arith;
  limit_bounded = omega arith;
  lane_rate_not_none = λ a e h. lane_stands a e (ap rank h);
}

-- the one that is not better is the lesser
pub lesser_by_more : (a b : Load) → lesser a b ≡ cond (more b a) a b
lesser_by_more a b =
    rank_same (lesser a b) (cond (more b a) a b)
    (cond_both (more b a) a b (λ l. rank (lesser a b) ≡ rank l)
    (λ e. omega (arith, rank_lesser a b, ltb-true (rank a) (rank b) (sym (more_rank b a) ∙ e)))
    (λ e. omega (arith, rank_lesser a b, ltb-false (rank a) (rank b) (sym (more_rank b a) ∙ e))))
