-- Pieces with their numbers: what a loop over both comes by.
-- Assumes nothing.
use Rattle.std.proofs.Common.{◌≡◌, ℕ, ◌+◌, ◌<◌, min, List, length, get_or, ap, ◌∙◌, arith}
use Rattle.std.specs.List.{range_with_len, zip}
use Rattle.std.proofs.lemmas.List.{get_or_default}
use Rattle.std.proofs.lemmas.List.FromFn.{length-range_with_len, get_or-range_with_len}
use Rattle.std.proofs.lemmas.Slice.Zip.{length-zip, get_or-zip}
use Rattle.records.specs.declared.Piece.{Piece}
use Rattle.pieces.specs.Cuts.{whole}
use Rattle.pieces.specs.Holding.{piece_at}

module _ (count : ℕ) (ps : List Piece) where
  -- the i-th is the piece i with its number
  pub numbered : (i p : ℕ) (P : Piece) → i < length (zip (range_with_len 0 count) ps) → (p, P) ≡ get_or (zip (range_with_len 0 count) ps) i (p, P)
      → (p ≡ i) × (P ≡ piece_at ps i)
  numbered i p P l e =
      let n = length-range_with_len 0 count in
      let z = length-zip (range_with_len 0 count) ps in
      let h : i < count = omega arith in
      let f = e ∙ get_or-zip (range_with_len 0 count) ps i (p, P) (omega arith) (omega arith) in
      let q : p ≡ 0 + i = ap (λ (x : ℕ × Piece). x.0) f ∙ get_or-range_with_len 0 count i p h in (
        omega arith,
        ap (λ (x : ℕ × Piece). x.1) f ∙ get_or_default ps i P whole (omega arith),
      )

  -- they end with the count or with the pieces
  pub numbered_all : (n : ℕ) → n ≡ length (zip (range_with_len 0 count) ps) → n ≡ min count (length ps)
  numbered_all n e =
      let l = length-range_with_len 0 count in
      let z = length-zip (range_with_len 0 count) ps in
      omega arith
