-- How long a sine is, and the texts of the numbers below one.
-- Assumes nothing.
use Rattle.std.proofs.Common.{◌≡◌, ℕ, ◌+◌, ◌-◌, ◌*◌, ◌/◌, ◌<◌, ◌≤◌, inl, inr, List, [], ◌∷◌, ◌++◌, ap, subst, sym, ◌∙◌, arith}
use Rattle.std.proofs.lemmas.Bool.{cases_lt}
use Rattle.std.proofs.lemmas.Nat.{div_below}
use Rattle.std.proofs.Math.Nat.{mul_comm}
use Rattle.std.proofs.lemmas.List.{flat_map_more, map-id}
use Rattle.std.proofs.lemmas.List.FromFn.{map-range_with_len_more}
use Rattle.std.specs.List.{flat_map, range_with_len}
use Rattle.plan_text.specs.Pictures.{sine, radius}

square_below : (x k : ℕ) → x * (x + k + k) ≤ (x + k) * (x + k)
square_below x k = omega arith

-- of two numbers with one sum the product is greatest where they are equal
product_below : (h x k : ℕ) → x + k ≡ h → x * (h + k) ≤ h * h
product_below h x k e = subst (λ (z : ℕ). x * (z + k) ≤ z * z) e (square_below x k)

quotient_below : (p : ℕ) → p ≤ 810000 → p * 4800 / (16200000 - p * 4) ≤ 300
quotient_below p h =
    let below : p * 4800 / (16200000 - p * 4) < 301 = div_below (p * 4800) (16200000 - p * 4) 301 (omega arith) (omega arith) in
    omega arith

pub product_small : (a : ℕ) → a * (1800 - a) ≤ 810000
product_small a = elim (cases_lt a 901) [
  | inl few ↦
      let with : a + (900 - a) ≡ 900 = omega arith in
      let rest : 1800 - a ≡ 900 + (900 - a) = omega arith in
      subst (λ (z : ℕ). a * z ≤ 810000) (sym rest) (product_below 900 a (900 - a) with)
  | inr many ↦ elim (cases_lt a 1801) [
    | inl less ↦
        let with : (1800 - a) + (a - 900) ≡ 900 = omega arith in
        let rest : a ≡ 900 + (a - 900) = omega arith in
        let turned : (1800 - a) * (900 + (a - 900)) ≤ 810000 = product_below 900 (1800 - a) (a - 900) with in
        let same : a * (1800 - a) ≡ (1800 - a) * (900 + (a - 900)) = mul_comm a (1800 - a) ∙ ap (λ (z : ℕ). (1800 - a) * z) rest in
        subst (λ (z : ℕ). z ≤ 810000) (sym same) turned
    | inr past ↦
        let none : 1800 - a ≡ 0 = omega arith in
        subst (λ (z : ℕ). a * z ≤ 810000) (sym none) (omega arith)
  ]
]

-- no sine is longer than the radius
pub sine_within : (angle : ℕ) → sine angle ≤ radius
sine_within angle = quotient_below (angle * (1800 - angle)) (product_small angle)

range_more : (n : ℕ) → range_with_len 0 (n + 1) ≡ range_with_len 0 n ++ n ∷ []
range_more n = sym (map-id _) ∙ map-range_with_len_more (λ (k : ℕ). k) 0 n n (omega arith) ∙ ap (λ (xs : List ℕ). xs ++ n ∷ []) (map-id _)

-- the texts of the numbers below n, and one more
pub one_more : (f : ℕ → List ℕ) (n : ℕ) → flat_map f (range_with_len 0 n) ++ f n ≡ flat_map f (range_with_len 0 (n + 1))
one_more f n = flat_map_more f [] (range_with_len 0 n) n ∙ ap (flat_map f) (sym (range_more n))
