-- The state of a division that is under way: records written below a number p, and pieces that wait to be cut.
-- Assumes the terms of `Cuts` and `Order`. The waiting pieces are the first k of a list, and the last of these is next.
use Rattle.std.specs.Prelude.{◌≡◌, ℕ, zero, suc, ◌+◌, ◌*◌, List, [], ◌++◌, take, slice_index_or}
use Rattle.records.specs.declared.Piece.{Piece}
use Rattle.pieces.specs.Sides.{Ends, span}
use Rattle.pieces.specs.Cuts.{whole, size}
use Rattle.pieces.specs.Order.{Records}

-- ys are the records still to come: those of the next piece, with the number p, and of all below it, then those of the others
abbrev pub ToCome : Ends → List Piece → ℕ → ℕ → List Piece → Type 0
ToCome e ts zero p ys = ys ≡ []
ToCome e ts (suc k) p ys =
    (xs : List Piece) × (zs : List Piece) × (q : ℕ)
    × ((ys ≡ xs ++ zs) × Records e p (slice_index_or ts k whole) xs × (q + 1 ≡ p + 2 * size (span e) (slice_index_or ts k whole)) × ToCome e ts k q zs)

-- what is written and what is still to come are together the records of the whole plan
abbrev pub Together : Ends → ℕ → List Piece → List Piece → ℕ → Type 0
Together e p ps ts k = (ys : List Piece) → ToCome e ts k p ys → Records e 0 whole (take p ps ++ ys)
