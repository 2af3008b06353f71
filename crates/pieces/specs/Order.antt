-- The order in which the records are written: a piece, then all of its first part, then all of its second.
-- Assumes the terms of `Cuts`.
use Rattle.std.specs.Prelude.{ℕ, ◌+◌, ◌*◌, ◌≤◌, List, [], ◌∷◌, ◌++◌}
use Rattle.records.specs.declared.Piece.{Piece}
use Rattle.records.specs.Few.{listed}
use Rattle.pieces.specs.Sides.{Ends, span}
use Rattle.pieces.specs.Cuts.{seam_of, first_part, second_part, size, single, parted}

-- the seam of a piece that is to be cut, and its two parts
abbrev pub seam_in : (ℕ → ℕ) → Piece → ℕ
seam_in len P = seam_of len P.top (listed P.holes)

abbrev pub first_of : (ℕ → ℕ) → ℕ → Piece → Piece
first_of len p P = first_part len p P (seam_in len P)

abbrev pub second_of : (ℕ → ℕ) → ℕ → Piece → Piece
second_of len p P = second_part len p P (seam_in len P)

-- the finished record of a piece that is cut
abbrev pub cut_record : Ends → ℕ → Piece → Piece
cut_record e p P = parted e p P (seam_in (span e) P) (size (span e) (first_of (span e) p P))

-- ds are the records of the piece P with the number p and of all pieces below it
pub data Records (e : Ends) : ℕ → Piece → List Piece → Type 0 where
  leaf : {p : ℕ} {P : Piece} → size (span e) P ≤ 1 → Records e p P (single e P ∷ [])
  node : {p : ℕ} {P : Piece} {xs ys : List Piece} → 2 ≤ size (span e) P → Records e (p + 1) (first_of (span e) p P) xs → Records e (p + 2 * size (span e) (first_of (span e) p P)) (second_of (span e) p P) ys → Records e p P (cut_record e p P ∷ (xs ++ ys))
