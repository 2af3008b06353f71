-- The step rule of the row of limits, by one test over the whole row, and what follows for the depth.
-- Assumes nothing.
use Rattle.std.proofs.Common.{◌≡◌, ℕ, ◌+◌, ◌<◌, Bool, eqb, get_or, take, refl, ap, ⊎_elim, arith}
use Rattle.std.proofs.lemmas.List.{get_or-take, get_or_past}
use Rattle.std.proofs.lemmas.Bool.{eqb-true, cases_lt}
use Rattle.records.specs.Limits.{limits, limit, share, RowOfLimits}
use Rattle.records.proofs.Table.{every_at}

abbrev falls : ℕ → ℕ → Bool
falls k x = eqb (get_or limits (k + 1) 0) (share x)

steps : (k : ℕ) → k < 20 → limit (k + 1) ≡ share (limit k)
unfolding limit
steps k h =
    eqb-true (get_or limits (k + 1) 0) (share (get_or limits k 0))
    (rw get_or-take at (every_at falls (take 20 limits) refl k h))

ends : (k : ℕ) → 20 < k → limit k ≡ 0
unfolding limit
ends k h = get_or_past limits k 0 h

final : limit 20 ≡ 1
unfolding limit
final = refl

start : limit 0 ≡ 4094
unfolding limit
start = refl

pub row_of_limits : RowOfLimits
row_of_limits =
    record {
      first = start;
      step = steps;
      last = final;
      past = ends;
      several = λ k h. ⊎_elim (λ l. l) (λ l. ⊎_elim (λ m. absurd (omega (arith, ends k m))) (λ m. let e : k ≡ 20 = omega arith in absurd (omega (arith, final, ap limit e))) (cases_lt 20 k)) (cases_lt k 20);
    }
