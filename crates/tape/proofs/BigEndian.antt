-- The bytes of the number that some bytes write, read big-endian, are those bytes.
-- Assumes that bytes are below 256.
use Rattle.std.proofs.Common.{◌≡◌, ℕ, ◌+◌, ◌*◌, ◌/◌, ◌%◌, ◌^◌, ◌<◌, ◌≤◌, List, [], ◌∷◌, length, get_or, take, drop, ℤ, pos, negsuc, sym, refl, ap, ◌∙◌, arith, w32, to_z, of_z}
use Rattle.std.proofs.lemmas.List.{drop_more}
use Rattle.std.proofs.lemmas.Int.{of_z-to_z}
use Rattle.tape.specs.Areas.{piece}
use Rattle.tape.specs.Contents.{two, four, bits}

-- one more byte of a piece
pub next_byte : (xs : List ℕ) (i j : ℕ) → i < length xs → i + 1 ≡ j → drop i xs ≡ get_or xs i 0 ∷ drop j xs
next_byte xs i j h e = drop_more xs i 0 h ∙ ap (λ k. get_or xs i 0 ∷ drop k xs) e

pub piece_two : (xs : List ℕ) (i : ℕ) → i + 2 ≤ length xs → piece xs i 2 ≡ get_or xs i 0 ∷ get_or xs (i + 1) 0 ∷ []
piece_two xs i h =
    ap (take 2) (next_byte xs i (i + 1) (omega arith) refl
    ∙ ap (λ r. get_or xs i 0 ∷ r) (next_byte xs (i + 1) (i + 2) (omega arith) (omega arith)))

pub piece_four : (xs : List ℕ) (i : ℕ) → i + 4 ≤ length xs → piece xs i 4 ≡ get_or xs i 0 ∷ get_or xs (i + 1) 0 ∷ get_or xs (i + 2) 0 ∷ get_or xs (i + 3) 0 ∷ []
piece_four xs i h =
    ap (take 4) (next_byte xs i (i + 1) (omega arith) refl
    ∙ ap (λ r. get_or xs i 0 ∷ r) (next_byte xs (i + 1) (i + 2) (omega arith) (omega arith)
    ∙ ap (λ r. get_or xs (i + 1) 0 ∷ r) (next_byte xs (i + 2) (i + 3) (omega arith) (omega arith)
    ∙ ap (λ r. get_or xs (i + 2) 0 ∷ r) (next_byte xs (i + 3) (i + 4) (omega arith) (omega arith)))))

pub two_back : (a b n : ℕ) → a < 256 → b < 256 → n ≡ a * 256 + b → two n ≡ a ∷ b ∷ []
two_back a b n ha hb e =
    let p : n / 256 % 256 ≡ a = omega arith in
    let q : n % 256 ≡ b = omega arith in
    cc

pub four_back : (a b c d n : ℕ) → a < 256 → b < 256 → c < 256 → d < 256 → n ≡ a * 16777216 + b * 65536 + c * 256 + d → four n ≡ a ∷ b ∷ c ∷ d ∷ []
four_back a b c d n ha hb hc hd e =
    let p : n / 16777216 % 256 ≡ a = omega arith in
    let q : n / 65536 % 256 ≡ b = omega arith in
    let r : n / 256 % 256 ≡ c = omega arith in
    let s : n % 256 ≡ d = omega arith in
    cc

-- a number read from the bytes at a place writes them again
pub two_at : (xs : List ℕ) (i n : ℕ) → ((k : ℕ) → get_or xs k 0 < 256) → i + 2 ≤ length xs → n ≡ get_or xs i 0 * 256 + get_or xs (i + 1) 0 → two n ≡ piece xs i 2
two_at xs i n small h e = two_back (get_or xs i 0) (get_or xs (i + 1) 0) n (small i) (small (i + 1)) e ∙ sym (piece_two xs i h)

pub four_at : (xs : List ℕ) (i n : ℕ) → ((k : ℕ) → get_or xs k 0 < 256) → i + 4 ≤ length xs → n ≡ get_or xs i 0 * 16777216 + get_or xs (i + 1) 0 * 65536 + get_or xs (i + 2) 0 * 256 + get_or xs (i + 3) 0 → four n ≡ piece xs i 4
four_at xs i n small h e =
    four_back (get_or xs i 0) (get_or xs (i + 1) 0) (get_or xs (i + 2) 0) (get_or xs (i + 3) 0) n (small i) (small (i + 1)) (small (i + 2)) (small (i + 3)) e
    ∙ sym (piece_four xs i h)

-- the signed reading of 32 bits has these bits
pub bits_is : (z : ℤ) → bits z ≡ of_z w32 z
bits_is (pos n) = refl
bits_is (negsuc n) = omega arith

pub bits_back : (n : ℕ) → n < 2 ^ 32 → bits (to_z w32 n) ≡ n
bits_back n h = bits_is (to_z w32 n) ∙ of_z-to_z w32 n h

-- the same of a signed number, on its way through a register
pub signed_back : (n : ℕ) (z : ℤ) → n < 2 ^ 32 → z ≡ to_z w32 n → four (bits (to_z w32 (of_z w32 z))) ≡ four n
signed_back n z small e =
    ap four (ap (λ y. bits (to_z w32 (of_z w32 y))) e ∙ ap (λ m. bits (to_z w32 m)) (of_z-to_z w32 n small) ∙ bits_back n small)
