-- A number that stands at no place of a list is not among its numbers.
-- Assumes nothing.
use Rattle.std.proofs.Common.{◌≡◌, ℕ, suc, ◌<◌, List, [], ◌∷◌, length, get_or, sym, ⊎_elim, arith}
use Rattle.records.specs.Few.{Among}

pub absent : (xs : List ℕ) (x : ℕ) → ((j : ℕ) → j < length xs → get_or xs j 0 ≡ x → ⊥) → Among x xs → ⊥
absent [] x h m = m
absent (y ∷ ys) x h m = ⊎_elim (λ e. h 0 (omega arith) (sym e)) (λ k. absent ys x (λ j l e. h (suc j) (omega arith) e) k) m
