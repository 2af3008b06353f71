-- The place of a terminal among stops, and what writing it there leaves.
-- Assumes nothing.
use Rattle.std.proofs.Common.{◌≡◌, ℕ, zero, suc, ◌+◌, ◌<◌, ◌≤◌, cond, eqb, ltb, List, [], ◌∷◌, ◌++◌, length, take, set, position, unwrap_or, Some, None, Option, sym, refl, ap, ◌∙◌, ⊎_elim, arith}
use Rattle.std.specs.List.{position_or_len}
use Rattle.std.proofs.lemmas.List.{length-take-le, take-take, take_more_set, drop-set-lt}
use Rattle.std.proofs.lemmas.List.Recursion.{is_position_or_len}
use Rattle.std.proofs.lemmas.Bool.{cases_Bool, cond-true, cond-false, ltb-false}
use Rattle.std.proofs.lemmas.Bool.Decides.{nat_tests}
use Rattle.piece_rates.specs.Climbing.{place}
use Rattle.piece_rates.proofs.Places.{place_at_most}
use Rattle.stops.specs.Passing.{Passed}

-- the place is the first position, or the list's length
first_or_length : (n k : ℕ) → k ≤ n → unwrap_or (cond (ltb k n) (Some k) None) n ≡ k
first_or_length n k l =
    ⊎_elim (λ t. ap (λ o. unwrap_or o n) (cond-true (ltb k n) (Some k) None t))
    (λ t. ap (λ o. unwrap_or o n) (cond-false (ltb k n) (Some k) None t) ∙ omega (arith, ltb-false k n t))
    (cases_Bool (ltb k n))

one_more : (w x n : ℕ) → cond (eqb w x) zero (suc n) ≡ cond (eqb x w) 0 (1 + n)
one_more w x n = grind (arith, nat_tests)

place_found : (w : ℕ) (xs : List ℕ) → unwrap_or (position (λ x. eqb x w) xs) (length xs) ≡ place xs w
place_found w xs =
    let z = is_position_or_len (λ l. place l w) (λ x. eqb x w) refl (λ x l. one_more w x (place l w)) xs in
    first_or_length (length xs) (position_or_len (λ x. eqb x w) xs) (omega (arith, z, place_at_most xs w)) ∙ sym z

module _ (xs : List ℕ) (count w : ℕ) (inside : count ≤ length xs) where
  at_most : place (take count xs) w ≤ count
  at_most = omega (arith, place_at_most (take count xs) w, length-take-le count xs inside)

  pub found : (k : ℕ) (o : Option ℕ) → o ≡ position (λ x. eqb x w) (take count xs) → k ≡ unwrap_or o count → k ≡ place (take count xs) w
  found k o p u = u ∙ ap (λ q. unwrap_or q count) p ∙ ap (unwrap_or (position (λ x. eqb x w) (take count xs))) (sym (length-take-le count xs inside)) ∙ place_found w (take count xs)

  pub passed_full : (k : ℕ) → k ≡ place (take count xs) w → length xs ≤ k → Passed xs count w count xs
  passed_full k z full = record {
    room_for_it = λ l. absurd (omega arith);
    no_room = λ _. (refl, refl);
    inside = inside;
    behind = refl;
  }

  pub passed_on : (k : ℕ) → k ≡ place (take count xs) w → k < length xs → Passed xs count w (k + 1) (set xs k w)
  passed_on k z room = record {
    room_for_it = λ _. (
      take_more_set xs k w room ∙ ap (λ l. l ++ w ∷ []) (ap (λ j. take j xs) z ∙ sym (take-take (place (take count xs) w) count xs at_most)),
      ap (λ j. j + 1) z,
    );
    no_room = λ l. absurd (omega arith);
    inside = omega arith;
    behind = drop-set-lt (k + 1) xs k w (omega arith);
  }
