-- Pieces of an area that lie one behind another are one piece.
-- Assumes nothing, but for the first byte that the area has one.
use Rattle.std.proofs.Common.{◌≡◌, ℕ, ◌+◌, ◌<◌, List, ◌∷◌, ◌++◌, length, get_or, take, drop, sym, refl, ap, ◌∙◌, take-add}
use Rattle.std.proofs.lemmas.List.{drop-drop}
use Rattle.tape.specs.Areas.{piece}
use Rattle.tape.proofs.BigEndian.{next_byte}

pub pieces : (xs : List ℕ) (i j m n k : ℕ) (xs₁ xs₂ : List ℕ) → i + m ≡ j → m + n ≡ k → xs₁ ≡ piece xs i m → xs₂ ≡ piece xs j n → xs₁ ++ xs₂ ≡ piece xs i k
pieces xs i j m n k xs₁ xs₂ e f p q =
    ap (λ v. v ++ xs₂) p ∙ ap (λ v. piece xs i m ++ v) (q ∙ ap (λ v. take n (drop v xs)) (sym e) ∙ ap (take n) (sym (drop-drop m i xs)))
    ∙ sym (take-add m n (drop i xs)) ∙ ap (λ v. take v (drop i xs)) f

pub lane_pieces : (xs es cs ts : List ℕ) → es ≡ piece xs 0 4 → cs ≡ piece xs 4 4 → ts ≡ piece xs 8 4 → (es ++ cs) ++ ts ≡ piece xs 0 12
lane_pieces xs es cs ts p q r = pieces xs 0 8 8 4 12 (es ++ cs) ts refl refl (pieces xs 0 4 4 4 8 es cs refl refl p q) r

pub head_pieces : (xs bs ns ms : List ℕ) → 0 < length xs → bs ≡ piece xs 1 4 → ns ≡ piece xs 5 2 → ms ≡ piece xs 7 4 → get_or xs 0 0 ∷ ((bs ++ ns) ++ ms) ≡ piece xs 0 11
head_pieces xs bs ns ms h p q r =
    ap (λ v. get_or xs 0 0 ∷ v) (pieces xs 1 7 6 4 10 (bs ++ ns) ms refl refl (pieces xs 1 5 4 2 6 bs ns refl refl p q) r)
    ∙ sym (ap (take 11) (next_byte xs 0 1 h refl))
