-- A list of numbers below n, none of them twice, has at most n places.
-- Assumes nothing.
use Rattle.std.proofs.Common.{◌≡◌, ℕ, zero, suc, ◌<◌, ◌≤◌, cond, eqb, List, [], ◌∷◌, length, sym, refl, ap, ◌∙◌, subst, ⊎_elim, arith}
use Rattle.std.specs.List.{AllByRecursion}
use Rattle.std.proofs.lemmas.Bool.{eqb-true, eqb-false, ne_eqb, cond_both, cond-false, cases_order}
use Rattle.trips.specs.Trips.{Absent, NoneTwice}

-- a list without a number
abbrev without : ℕ → List ℕ → List ℕ
without k [] = []
without k (x ∷ xs) = cond (eqb x k) (without k xs) (x ∷ without k xs)

absent_without : (x k : ℕ) (xs : List ℕ) → Absent x xs → Absent x (without k xs)
absent_without x k [] h = tt
absent_without x k (y ∷ ys) (n, h) =
    cond_both (eqb y k) (without k ys) (y ∷ without k ys) (Absent x) (λ e. absent_without x k ys h) (λ e. (n, absent_without x k ys h))

none_twice_without : (k : ℕ) (xs : List ℕ) → NoneTwice xs → NoneTwice (without k xs)
none_twice_without k [] h = tt
none_twice_without k (x ∷ xs) (a, h) =
    cond_both (eqb x k) (without k xs) (x ∷ without k xs) NoneTwice (λ e. none_twice_without k xs h)
    (λ e. (absent_without x k xs a, none_twice_without k xs h))

below_or_same : (x k : ℕ) → (x ≡ k → ⊥) → x < suc k → x < k
below_or_same x k n l = ⊎_elim (λ e. absurd (n e)) (⊎_elim (λ h. h) (λ h. absurd (omega arith))) (cases_order x k)

below_without : (k : ℕ) (xs : List ℕ) → AllByRecursion (λ x. x < suc k) xs → AllByRecursion (λ x. x < k) (without k xs)
below_without k [] h = tt
below_without k (x ∷ xs) (l, h) =
    cond_both (eqb x k) (without k xs) (x ∷ without k xs) (AllByRecursion (λ y. y < k)) (λ e. below_without k xs h)
    (λ e. (below_or_same x k (eqb-false x k e) l, below_without k xs h))

-- a number that a list lacks is not taken out of it
length_lacking : (k : ℕ) (xs : List ℕ) → Absent k xs → length (without k xs) ≡ length xs
length_lacking k [] h = refl
length_lacking k (x ∷ xs) (n, h) =
    ap length (cond-false (eqb x k) (without k xs) (x ∷ without k xs) (ne_eqb x k (λ e. n (sym e))))
    ∙ ap (λ n. suc n) (length_lacking k xs h)

length_without : (k : ℕ) (xs : List ℕ) → NoneTwice xs → length xs ≤ suc (length (without k xs))
length_without k [] h = omega arith
length_without k (x ∷ xs) (a, h) =
    cond_both (eqb x k) (without k xs) (x ∷ without k xs) (λ ys. suc (length xs) ≤ suc (length ys))
    (λ e. omega (arith, length_lacking k xs (subst (λ y. Absent y xs) (eqb-true x k e) a)))
    (λ e. omega (arith, length_without k xs h))

pub pigeonhole : (n : ℕ) (xs : List ℕ) → NoneTwice xs → AllByRecursion (λ x. x < n) xs → length xs ≤ n
pigeonhole zero [] h b = omega arith
pigeonhole zero (x ∷ xs) h (l, b) = absurd (omega arith)
pigeonhole (suc k) xs h b =
    omega (arith, length_without k xs h, pigeonhole k (without k xs) (none_twice_without k xs h) (below_without k xs b))
