-- The depth bound: a piece at level 2k has at most the k-th limit of triangles, and no piece lies below level 40.
-- Assumes what a cut leaves to each part.
--
-- A cut of a piece with at most three bounding seams takes the limit one number down the row. One with four does not, but leaves
-- its parts three, so of two cuts one after the other at least one does.
use Rattle.std.proofs.Common.{◌≡◌, ℕ, ◌+◌, ◌*◌, ◌<◌, ◌≤◌, ◌⊎◌, refl, ap, inl, inr, ⊎_elim, arith}
use Rattle.std.proofs.lemmas.Bool.{cases_lt}
use Rattle.records.specs.Limits.{limit}
use Rattle.records.proofs.RowOfLimits.{row_of_limits}
use Rattle.pieces.proofs.Shares.{Left}

-- at an even level the piece is within its limit; at an odd one within the next, or within the last with three seams at most
abbrev pub Deep : ℕ → ℕ → ℕ → Type 0
Deep level t seams =
    (k : ℕ)
    × (((level ≡ 2 * k) × (t ≤ limit k))
    ⊎ ((level ≡ 2 * k + 1) × (k < 20) × ((t ≤ limit (k + 1)) ⊎ ((t ≤ limit k) × (seams ≤ 3)))))

pub deep_whole : (t seams : ℕ) → t ≤ 4094 → Deep 0 t seams
deep_whole t seams l = (0, inl (refl, omega (arith, row_of_limits.first)))

pub deep_part : (level t seams t' seams' : ℕ) → Deep level t seams → 2 ≤ t → seams ≤ 4 → Left t seams t' seams' → Deep (level + 1) t' seams'
deep_part level t seams t' seams' (k, inl p) two few left =
    let k20 = row_of_limits.several k (omega (arith, p.1)) in
    let st = row_of_limits.step k k20 in
    ⊎_elim
    (λ q. (k, inr (omega (arith, p.0), k20, inl (omega (arith, p.1, left.fewer_seams (omega arith))))))
    (λ q. (k, inr (omega (arith, p.0), k20, inr (omega (arith, p.1, left.fewer), omega (arith, left.four_seams (omega arith))))))
    (cases_lt seams 4)
deep_part level t seams t' seams' (k, inr (e, k20, inl q)) two few left = (k + 1, inl (omega (arith, e), omega (arith, q, left.fewer)))
deep_part level t seams t' seams' (k, inr (e, k20, inr q)) two few left =
    (k + 1, inl (omega (arith, e), omega (arith, q.0, row_of_limits.step k k20, left.fewer_seams q.1)))

pub deep_row : (level t seams j : ℕ) → Deep level t seams → level ≡ 2 * j → t ≤ limit j
deep_row level t seams j (k, inl p) e = let same : k ≡ j = omega (arith, p.0) in omega (arith, p.1, ap limit same)
deep_row level t seams j (k, inr p) e = absurd (omega (arith, p.0))

pub deep_level : (level t seams : ℕ) → Deep level t seams → 1 ≤ t → level ≤ 40
deep_level level t seams (k, inl p) one =
    ⊎_elim (λ l. absurd (omega (arith, row_of_limits.past k l, p.1))) (λ l. omega (arith, p.0)) (cases_lt 20 k)
deep_level level t seams (k, inr p) one = omega (arith, p.0, p.1)

pub deep_cut : (level t seams : ℕ) → Deep level t seams → 2 ≤ t → level ≤ 39
deep_cut level t seams (k, inl p) two = omega (arith, row_of_limits.several k (omega (arith, p.1)), p.0)
deep_cut level t seams (k, inr p) two = omega (arith, p.0, p.1)
