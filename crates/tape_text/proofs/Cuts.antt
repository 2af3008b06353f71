-- Cutting a text at a character that does not stand in its first part.
-- Assumes nothing but an ASCII character.
use Rattle.std.proofs.Common.{◌≡◌, ◌≢◌, ℕ, zero, suc, ◌+◌, ◌^◌, ◌<◌, ◌⊎◌, Bool, true, false, not, ◌&&◌, eqb, List, [], ◌∷◌, ◌++◌, length, get_or, take, drop, ℤ, pos, negsuc, decimal, Option, Some, None, Bor, sym, refl, ap, ◌∙◌, subst, inl, inr, arith}
use Rattle.std.specs.Option.{MatchOption, unwrap_or}
use lib.Signed.{mag}
use Rattle.std.specs.Fmt.{signed_decimal}
use Rattle.std.specs.Str.Pattern.{FindsChar, IsSplitAtFirstMatch}
use Rattle.std.proofs.lemmas.List.{get_or_at, length-append, length-drop, length-take-le, nil_from_length}
use Rattle.std.proofs.lemmas.Str.Pattern.{split_parts}
use Rattle.std.proofs.lemmas.Fmt.{digits_decimal}
use Rattle.std.proofs.lemmas.Str.Parse.{IsNumeralModel, numerals_by_value, tells_digits, not_in_digits}
use Rattle.std.proofs.lemmas.Bool.{eqb-false, and_parts, not-true}
use Rattle.std.specs.Str.Parse.{AllDigits, digits_value}
use Rattle.tape_text.specs.Parses.{Lacks, CutThere, NoCut, CutIs}

-- what a split at the first such character gives, or the whole text where there is none
pub cut_or : (c : ℕ) (text : List ℕ) (o : Option (Bor (List ℕ) × Bor (List ℕ))) (d r : Bor (List ℕ) × Bor (List ℕ)) → r ≡ unwrap_or o d → d.0.now ≡ text → d.1.now ≡ []
    → MatchOption o ((i : ℕ) → i < length text → get_or text i 0 ≢ c) (λ x. (text ≡ x.0.now ++ (c ∷ x.1.now)) × ((i : ℕ) → i < length x.0.now → get_or x.0.now i 0 ≢ c))
    → CutThere text c r.0.now r.1.now ⊎ NoCut text c r.0.now r.1.now
cut_or c text None d r e whole rest h = inr (record { none = h; whole = ap (λ p. p.0.now) e ∙ whole; rest = ap (λ p. p.1.now) e ∙ rest })
cut_or c text (Some x) d r e whole rest h = inl (subst (λ p. CutThere text c p.0.now p.1.now) (sym e) (record { first = h.1; whole = h.0 }))

-- a line that the splitter cuts off: there was a line's end, or there was none and nothing is left
pub cut_line : (w : List ℕ) (x : Bor (List ℕ)) (live : Bool) (rest : List ℕ) → IsSplitAtFirstMatch (FindsChar 10) w x.now live rest
    → (CutThere w 10 x.now rest × (live ≡ true)) ⊎ (NoCut w 10 x.now rest × (live ≡ false))
cut_line w x live rest h = ends_at h.1.0 h.1.1 h.1.2
  where
    ends_at : (o : Option (ℕ × ℕ)) → FindsChar 10 w o → MatchOption o ((x.now ≡ w) × (live ≡ false)) (λ q. 0 < q.1 → (x.now ≡ take q.0 w) × (live ≡ true) × (rest ≡ drop q.1 w)) → (CutThere w 10 x.now rest × (live ≡ true)) ⊎ (NoCut w 10 x.now rest × (live ≡ false))
    ends_at None f p =
        let size = h.0 in
        let long = ap length p.0 in
        inr (record { none = split_parts 10 w None f (omega arith); whole = p.0; rest = nil_from_length rest (omega arith) }, p.1)
    ends_at (Some q) f p =
        let there = f.1 in
        let next = there.ends in
        let gone = ap length there.split in
        let (is, more, behind) = p (omega arith) in
        let inside : q.0 < length w = omega (arith, length-drop q.0 w, length-drop q.1 w) in
        let front : length x.now ≡ q.0 = ap length is ∙ length-take-le q.0 w (omega arith) in
        let back : length rest + q.1 ≡ length w = let l = ap length behind ∙ length-drop q.1 w in omega arith in
        let parts = split_parts 10 w (Some (x, record x { now = rest })) (q.0, q.1, f, is, behind, omega arith, front, back) (omega arith) in
        inl (record { first = parts.1; whole = parts.0 }, more)

-- where a text begins with a part that lacks the character, the cut comes right behind that part
first_part : (c : ℕ) (p q xs ys : List ℕ) → p ++ (c ∷ q) ≡ xs ++ (c ∷ ys) → Lacks p c → Lacks xs c → (p ≡ xs) × (q ≡ ys)
first_part c [] q [] ys e f g = (refl, cc)
first_part c [] q (x ∷ xs) ys e f g = let same : x ≡ c = cc in absurd (g 0 (omega arith) same)
first_part c (x ∷ p) q [] ys e f g = let same : x ≡ c = cc in absurd (f 0 (omega arith) same)
first_part c (x ∷ p) q (y ∷ xs) ys e f g =
    let heads : x ≡ y = cc in
    let tails : p ++ (c ∷ q) ≡ xs ++ (c ∷ ys) = cc in
    let on = first_part c p q xs ys tails (λ i h. f (suc i) (omega arith)) (λ i h. g (suc i) (omega arith)) in
    (ap (λ v. v ∷ p) heads ∙ ap (λ v. y ∷ v) on.0, on.1)

pub cut_at : (text : List ℕ) (c : ℕ) (before behind xs ys : List ℕ) → c < 128 → CutIs text c before behind → text ≡ xs ++ (c ∷ ys) → Lacks xs c → (before ≡ xs) × (behind ≡ ys)
cut_at text c before behind xs ys small k e g = elim (k small) [
  | inl t ↦ first_part c before behind xs ys (sym t.whole ∙ e) t.first g
  | inr n ↦ absurd (n.none (length xs) (let l = ap length e ∙ length-append xs (c ∷ ys) in omega arith) (ap (λ v. get_or v (length xs) 0) e ∙ get_or_at xs c ys 0 (length xs) refl))
]

pub cut_none : (text : List ℕ) (c : ℕ) (before behind : List ℕ) → c < 128 → CutIs text c before behind → Lacks text c → before ≡ text
cut_none text c before behind small k g = elim (k small) [
  | inl t ↦ absurd (g (length before) (let l = ap length t.whole ∙ length-append before (c ∷ behind) in omega arith) (ap (λ v. get_or v (length before) 0) t.whole ∙ get_or_at before c behind 0 (length before) refl))
  | inr n ↦ n.whole
]

-- a character that does not stand in a text that is written out
abbrev pub lacks : List ℕ → ℕ → Bool
lacks [] c = true
lacks (x ∷ xs) c = not (eqb x c) && lacks xs c

pub lacks_char : (text : List ℕ) (c : ℕ) → lacks text c ≡ true → Lacks text c
lacks_char [] c h i l e = omega arith
lacks_char (x ∷ xs) c h zero l e = eqb-false x c (not-true (eqb x c) (and_parts (not (eqb x c)) (lacks xs c) h).0) e
lacks_char (x ∷ xs) c h (suc i) l e = lacks_char xs c (and_parts (not (eqb x c)) (lacks xs c) h).1 i (omega arith) e

-- numbers are written without blanks
own : IsNumeralModel (AllDigits 10) (digits_value 10)
own = numerals_by_value (AllDigits 10) tells_digits

pub decimal_lacks : (n c : ℕ) → n < 2 ^ 64 → c < 48 → Lacks (decimal n) c
decimal_lacks n c h l = not_in_digits own (decimal n) c (digits_decimal own n h) (λ d. omega arith)

pub signed_lacks : (z : ℤ) (c : ℕ) → mag z < 2 ^ 63 → c < 45 → Lacks (signed_decimal z) c
signed_lacks (pos n) c h l = decimal_lacks n c (omega arith) (omega arith)
signed_lacks (negsuc n) c h l = minus_lacks (decimal (suc n)) c l (decimal_lacks (suc n) c (omega arith) (omega arith))
  where
    minus_lacks : (ds : List ℕ) (c : ℕ) → c < 45 → Lacks ds c → Lacks (45 ∷ ds) c
    minus_lacks ds c l h zero k e = omega arith
    minus_lacks ds c l h (suc i) k e = h i (omega arith) e
