-- The first place of a number in a list.
-- Assumes nothing.
use Rattle.std.proofs.Common.{◌≡◌, ℕ, ◌<◌, List, length, Option, Some, None, MatchOption, ◌≢◌, arith}
use Rattle.std.specs.List.{AllWithin, HoldsAt}
use Rattle.records.specs.Few.{Position}
use Rattle.records.proofs.Absent.{absent}

pub first_place : (xs : List ℕ) (x : ℕ) (r : Option ℕ) → MatchOption r (AllWithin (λ y. y ≢ x) xs 0 (length xs)) (λ i. (i < length xs) × HoldsAt (λ y. y ≡ x) xs i × AllWithin (λ y. y ≢ x) xs 0 i) → Position xs x r
first_place xs x (Some k) m = record { inside = m.0; stands = m.1 0; first = λ j l. m.2 j 0 (omega arith) l }
first_place xs x None m = absent xs x (λ j l e. m j 0 (omega arith) l e)
