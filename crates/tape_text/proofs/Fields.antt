-- Fields back from the text that was written of them.
-- Assumes that each field fits its width.
use Rattle.std.proofs.Common.{◌≡◌, ℕ, ◌^◌, ◌<◌, true, List, ◌∷◌, ◌++◌, ℤ, codes, decimal, Option, Some, None, Result, refl, ap, ◌∙◌, arith, w32, SFits}
use Rattle.std.specs.Result.{result_ok}
use Rattle.std.specs.Fmt.{signed_decimal}
use Rattle.std.specs.Str.Parse.{ParsesUnsigned, ParsesSigned}
use Rattle.std.proofs.lemmas.Fmt.{parse-decimal, parse-signed_decimal}
use Rattle.tape.specs.declared.contents.Ends.{Ends}
use Rattle.tape.specs.declared.contents.LaneRate.{LaneRate}
use Rattle.tape.specs.declared.contents.HeadFields.{HeadFields}
use Rattle.tape.specs.Laws.{EndsFit, LaneFits, HeadFits}
use Rattle.tape.specs.Texts.{ends_words, lane_words, head_words}
use Rattle.tape_text.specs.Parses.{CutIs}
use Rattle.tape_text.proofs.Cuts.{cut_at, decimal_lacks, signed_lacks, lacks, lacks_char}

-- a number's text, and a blank behind it
pub cut_number : (text before behind : List ℕ) (n : ℕ) (rest : List ℕ) → CutIs text 32 before behind → n < 2 ^ 32 → text ≡ decimal n ++ (32 ∷ rest) → (before ≡ decimal n) × (behind ≡ rest)
cut_number text before behind n rest k h e = cut_at text 32 before behind (decimal n) rest (omega arith) k e (decimal_lacks n 32 (omega arith) (omega arith))

pub cut_signed : (text before behind : List ℕ) (z : ℤ) (rest : List ℕ) → CutIs text 32 before behind → SFits w32 z → text ≡ signed_decimal z ++ (32 ∷ rest) → (before ≡ signed_decimal z) × (behind ≡ rest)
cut_signed text before behind z rest k h e =
    let small = h.sfits in
    cut_at text 32 before behind (signed_decimal z) rest (omega arith) k e (signed_lacks z 32 (omega arith) (omega arith))

-- a name, and a blank behind it
pub cut_name : (text before behind name rest : List ℕ) → CutIs text 32 before behind → lacks name 32 ≡ true → text ≡ name ++ (32 ∷ rest) → (before ≡ name) × (behind ≡ rest)
cut_name text before behind name rest k h e = cut_at text 32 before behind name rest (omega arith) k e (lacks_char name 32 h)

-- the words of fields, cut at their blanks
pub ends_cut : (text b1 r1 : List ℕ) → CutIs text 32 b1 r1 → (e : Ends) → EndsFit e → text ≡ ends_words e → (b1 ≡ decimal e.from) × (r1 ≡ decimal e.to)
ends_cut text b1 r1 k1 e h is = let f = h.from in cut_number text b1 r1 e.from (decimal e.to) k1 (omega arith) is

pub lane_cut : (text b1 r1 b2 r2 b3 r3 b4 r4 b5 r5 : List ℕ) → CutIs text 32 b1 r1 → CutIs r1 32 b2 r2 → CutIs r2 32 b3 r3 → CutIs r3 32 b4 r4 → CutIs r4 32 b5 r5 → (l : LaneRate) → LaneFits l → text ≡ lane_words l
    → (b1 ≡ decimal l.ends.from) × (b2 ≡ decimal l.ends.to) × (b4 ≡ signed_decimal l.cents) × (r5 ≡ decimal l.tonnes)
lane_cut text b1 r1 b2 r2 b3 r3 b4 r4 b5 r5 k1 k2 k3 k4 k5 l h is =
    let f = h.ends.from in
    let g = h.ends.to in
    let last = codes "tonnes" ++ (32 ∷ decimal l.tonnes) in
    let money = signed_decimal l.cents ++ (32 ∷ last) in
    let rate = codes "cents" ++ (32 ∷ money) in
    let p1 = cut_number text b1 r1 l.ends.from (decimal l.ends.to ++ (32 ∷ rate)) k1 (omega arith) is in
    let p2 = cut_number r1 b2 r2 l.ends.to rate k2 (omega arith) p1.1 in
    let p3 = cut_name r2 b3 r3 (codes "cents") money k3 refl p2.1 in
    let p4 = cut_signed r3 b4 r4 l.cents last k4 h.cents p3.1 in
    let p5 = cut_name r4 b5 r5 (codes "tonnes") (decimal l.tonnes) k5 refl p4.1 in
    (p1.0, p2.0, p4.0, p5.1)

pub head_cut : (text b1 r1 b2 r2 b3 r3 b4 r4 b5 r5 b6 r6 b7 r7 : List ℕ) → CutIs text 32 b1 r1 → CutIs r1 32 b2 r2 → CutIs r2 32 b3 r3 → CutIs r3 32 b4 r4 → CutIs r4 32 b5 r5 → CutIs r5 32 b6 r6 → CutIs r6 32 b7 r7 → (h : HeadFields) → HeadFits h → text ≡ head_words h
    → (b2 ≡ decimal h.rate_kind) × (b4 ≡ decimal h.book) × (b6 ≡ decimal h.terminals) × (r7 ≡ decimal h.meter)
head_cut text b1 r1 b2 r2 b3 r3 b4 r4 b5 r5 b6 r6 b7 r7 k1 k2 k3 k4 k5 k6 k7 h fits is =
    let fk = fits.kind in
    let fb = fits.book in
    let fn = fits.terminals in
    let last = codes "meter" ++ (32 ∷ decimal h.meter) in
    let count = decimal h.terminals ++ (32 ∷ last) in
    let many = codes "terminals" ++ (32 ∷ count) in
    let number = decimal h.book ++ (32 ∷ many) in
    let book = codes "book" ++ (32 ∷ number) in
    let kind = decimal h.rate_kind ++ (32 ∷ book) in
    let p1 = cut_name text b1 r1 (codes "rates") kind k1 refl is in
    let p2 = cut_number r1 b2 r2 h.rate_kind book k2 (omega arith) p1.1 in
    let p3 = cut_name r2 b3 r3 (codes "book") number k3 refl p2.1 in
    let p4 = cut_number r3 b4 r4 h.book many k4 (omega arith) p3.1 in
    let p5 = cut_name r4 b5 r5 (codes "terminals") count k5 refl p4.1 in
    let p6 = cut_number r5 b6 r6 h.terminals last k6 (omega arith) p5.1 in
    let p7 = cut_name r6 b7 r7 (codes "meter") (decimal h.meter) k7 refl p6.1 in
    (p2.0, p4.0, p6.0, p7.1)

-- what a number's text reads as
pub number_of : {E : Type 0} (k n : ℕ) (text : List ℕ) (a : Result ℕ E) (o : Option ℕ) → n < 2 ^ 64 → n < 2 ^ k → text ≡ decimal n → ParsesUnsigned k 10 text a → o ≡ result_ok a → o ≡ Some n
number_of k n text a o w h e r is = is ∙ ap result_ok (parse-decimal k n text a h w e r)

pub signed_of : {E : Type 0} (z : ℤ) (text : List ℕ) (a : Result ℤ E) (o : Option ℤ) → SFits w32 z → text ≡ signed_decimal z → ParsesSigned w32 10 text a → o ≡ result_ok a → o ≡ Some z
signed_of z text a o h e r is = let small = h.sfits in is ∙ ap result_ok (parse-signed_decimal w32 z text a h (omega arith) e r)

-- an option is one thing only
pub not_both : {A : Type 0} (o : Option A) (x : A) → o ≡ None → o ≡ Some x → ⊥
not_both o x p q = cc

pub same_some : {A : Type 0} (o : Option A) (x y : A) → o ≡ Some x → o ≡ Some y → x ≡ y
same_some o x y p q = cc

-- equal fields make equal records
pub same_ends : (a b : ℕ) (e : Ends) → a ≡ e.from → b ≡ e.to → record { from = a; to = b } ≡ e
same_ends a b e p q = ap (λ (v : ℕ). record { from = v; to = b }) p ∙ ap (λ (v : ℕ). record { from = e.from; to = v }) q

pub same_lane : (a b : ℕ) (z : ℤ) (n : ℕ) (l : LaneRate) → a ≡ l.ends.from → b ≡ l.ends.to → z ≡ l.cents → n ≡ l.tonnes → record { ends = record { from = a; to = b }; cents = z; tonnes = n } ≡ l
same_lane a b z n l p q r s =
    ap (λ v. record { ends = v; cents = z; tonnes = n }) (same_ends a b l.ends p q)
    ∙ ap (λ v. record { ends = l.ends; cents = v; tonnes = n }) r
    ∙ ap (λ v. record { ends = l.ends; cents = l.cents; tonnes = v }) s

pub same_head : (k b n m : ℕ) (h : HeadFields) → k ≡ h.rate_kind → b ≡ h.book → n ≡ h.terminals → m ≡ h.meter → record { rate_kind = k; book = b; terminals = n; meter = m } ≡ h
same_head k b n m h p q r s =
    ap (λ v. record { rate_kind = v; book = b; terminals = n; meter = m }) p
    ∙ ap (λ v. record { rate_kind = h.rate_kind; book = v; terminals = n; meter = m }) q
    ∙ ap (λ v. record { rate_kind = h.rate_kind; book = h.book; terminals = v; meter = m }) r
    ∙ ap (λ v. record { rate_kind = h.rate_kind; book = h.book; terminals = h.terminals; meter = v }) s
