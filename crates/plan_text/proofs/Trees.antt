-- The texts of a division, one part after another.
-- Assumes nothing.
use Rattle.std.proofs.Common.{◌≡◌, ℕ, ◌+◌, ◌<◌, List, [], ◌∷◌, ◌++◌, length, take, get_or, codes, refl, sym, ap, ◌∙◌, append_assoc, arith}
use Rattle.std.proofs.lemmas.List.{append-nil, take_more, length-take-le}
use Rattle.ring.specs.declared.Side.{Side}
use Rattle.records.specs.declared.Piece.{Piece}
use Rattle.plan_text.specs.Trees.{spaced, edges_text, piece_text, lines_from}

pub edges_some : (xs : List ℕ) → 0 < length xs → edges_text xs ≡ codes ", edge terminals" ++ spaced xs
edges_some [] some = absurd (omega arith)
edges_some (x ∷ xs) some = refl

lines_from-append : (sides : List Side) (n : ℕ) (xs ys : List Piece) → lines_from sides n (xs ++ ys) ≡ lines_from sides n xs ++ lines_from sides (n + length xs) ys
lines_from-append sides n [] ys = let e : n ≡ n + 0 = omega arith in ap (λ k. lines_from sides k ys) e
lines_from-append sides n (x ∷ xs) ys =
    let e : n + 1 + length xs ≡ n + length (x ∷ xs) = omega arith in
    ap (λ rest. piece_text sides n x ++ rest) (lines_from-append sides (n + 1) xs ys ∙ ap (λ k. lines_from sides (n + 1) xs ++ lines_from sides k ys) e)
    ∙ sym (append_assoc (piece_text sides n x) (lines_from sides (n + 1) xs) (lines_from sides (n + length (x ∷ xs)) ys))

pub lines_more : (sides : List Side) (pieces : List Piece) (i : ℕ) (d : Piece) → i < length pieces → lines_from sides 0 (take (i + 1) pieces) ≡ lines_from sides 0 (take i pieces) ++ piece_text sides i (get_or pieces i d)
lines_more sides pieces i d inside =
    let e : 0 + length (take i pieces) ≡ i = omega (arith, length-take-le i pieces (omega arith)) in
    ap (lines_from sides 0) (take_more pieces i d inside)
    ∙ lines_from-append sides 0 (take i pieces) (get_or pieces i d ∷ [])
    ∙ ap (λ k. lines_from sides 0 (take i pieces) ++ (piece_text sides k (get_or pieces i d) ++ [])) e
    ∙ ap (λ rest. lines_from sides 0 (take i pieces) ++ rest) (append-nil (piece_text sides i (get_or pieces i d)))
