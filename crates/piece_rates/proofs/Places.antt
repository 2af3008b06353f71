-- The place of a terminal in a list is the first at which it stands.
-- Assumes nothing.
use Rattle.std.proofs.Common.{◌≡◌, ℕ, zero, suc, ◌≤◌, eqb, ltb, List, [], ◌∷◌, length, sym, refl, ap, ◌∙◌, inl, inr, ⊎_elim, arith}
use Rattle.std.proofs.lemmas.Bool.{eq-eqb, ne_eqb, cond-true, cond-false, cond_both, cases_Bool, both_ways, lt-ltb, le-ltb}
use Rattle.records.specs.Few.{Among, FirstPlace}
use Rattle.piece_rates.specs.Climbing.{place, among}
use Rattle.piece_rates.proofs.Holding.{among_decided, place_below}

pub place_first : (xs : List ℕ) (u k : ℕ) → FirstPlace xs u k → place xs u ≡ k
place_first [] u k h = absurd (omega (arith, h.inside))
place_first (x ∷ xs) u zero h = cond-true (eqb u x) zero (suc (place xs u)) (eq-eqb u x (sym h.stands))
place_first (x ∷ xs) u (suc k) h =
    cond-false (eqb u x) zero (suc (place xs u)) (ne_eqb u x (λ z. h.first zero (omega arith) (sym z)))
    ∙ ap suc (place_first xs u k (record { inside = omega (arith, h.inside); stands = h.stands; first = λ j l. h.first (suc j) (omega arith) }))

pub place_absent : (xs : List ℕ) (u : ℕ) → (Among u xs → ⊥) → place xs u ≡ length xs
place_absent [] u h = refl
place_absent (x ∷ xs) u h =
    cond-false (eqb u x) zero (suc (place xs u)) (ne_eqb u x (λ z. h (inl z))) ∙ ap suc (place_absent xs u (λ a. h (inr a)))

pub place_at_most : (xs : List ℕ) (u : ℕ) → place xs u ≤ length xs
place_at_most [] u = omega arith
place_at_most (x ∷ xs) u =
    cond_both (eqb u x) zero (suc (place xs u)) (λ k. k ≤ suc (length xs)) (λ e. omega arith) (λ e. omega (arith, place_at_most xs u))

-- a terminal stands in the list exactly where its place is below the length
pub among_place : (xs : List ℕ) (u : ℕ) → among xs u ≡ ltb (place xs u) (length xs)
among_place xs u =
    ⊎_elim (λ t. t ∙ sym (lt-ltb (place xs u) (length xs) (place_below xs u ((among_decided xs u).0 t))))
    (λ t. t ∙ sym (le-ltb (place xs u) (length xs) (omega (arith, place_absent xs u (λ h. both_ways (among xs u) t ((among_decided xs u).1 h))))))
    (cases_Bool (among xs u))
