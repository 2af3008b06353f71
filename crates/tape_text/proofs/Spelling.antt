-- A text read line by line: what has been read so far, followed by what the rest spells, is what the text spells.
-- Assumes what one line is.
use Rattle.std.proofs.Common.{◌≡◌, ℕ, ◌+◌, Bool, true, false, eqb, List, [], ◌∷◌, ◌++◌, length, get_or, Some, None, Decides, Option, MatchOption, Bor, sym, refl, ap, ◌∙◌, subst, inl, inr, arith}
use Rattle.std.specs.Str.Pattern.{FindsChar, IsSplitAtFirstMatch}
use Rattle.std.proofs.lemmas.List.{append_assoc, append-nil, length-append}
use Rattle.std.proofs.lemmas.Bool.{eqb-false, both_ways}
use Rattle.tape.specs.declared.contents.Content.{Content}
use Rattle.tape.specs.Laws.{Fits}
use Rattle.tape_text.specs.declared.making.Line.{Line}
use Rattle.tape_text.specs.declared.making.Line.TheVariants.{Remark, Record, Bad}
use Rattle.tape.specs.Texts.{text_of}
use Rattle.tape_text.specs.Parses.{ParsedAs}
use Rattle.tape_text.proofs.Cuts.{cut_line}
use Rattle.tape_text.specs.Making.{Trimmed, BehindPlace, IsRemark, OnLine, LineIs, FirstLine, Spells, nothing, remark, said, IsGood, BadAt, first, later}

pub record SoFar (text rest : List ℕ) (number : ℕ) (done : List Content) : Type 0 where
  pub spelled : (cs : List Content) → Spells rest cs → Spells text (done ++ cs)
  pub bad : (n : ℕ) → BadAt rest n → (m : ℕ) × (m + 1 ≡ number + n) × BadAt text m

-- what the splitter cuts off a text that is left is its first line, and nothing is left behind a line with no end
pub line_off : (w : List ℕ) (x : Bor (List ℕ)) (live : Bool) (rest : List ℕ) → IsSplitAtFirstMatch (FindsChar 10) w x.now live rest → (length x.now ≡ 0 → live ≡ true) → FirstLine w x.now rest × (live ≡ false → length rest ≡ 0)
line_off w x live rest h blank = elim (cut_line w x live rest h) [
  | inl c ↦
      let long = ap length c.0.whole ∙ length-append x.now (10 ∷ rest) in
      (record { some = omega arith; cut = λ _. inl c.0 }, λ d. let both : true ≡ false = sym c.1 ∙ d in absurd (cc))
  | inr n ↦
      let long = ap length n.0.whole in
      let some : length w ≡ 0 → ⊥ = λ none. let both : true ≡ false = sym (blank (omega arith)) ∙ n.1 in cc in
      (record { some = omega arith; cut = λ _. inr n.0 }, λ _. ap length n.0.rest)
]

-- where no line is left, no text is left
pub none_left : (w : List ℕ) (live : Bool) → (live ≡ false → length w ≡ 0) → (live ≡ true → (o : Option (ℕ × ℕ)) × FindsChar 10 w o × MatchOption o (length w ≡ 0) (λ q. q.1 ≡ 0)) → length w ≡ 0
none_left w false gone end = gone refl
none_left w true gone end = at_end (end refl).0 (end refl).1 (end refl).2
  where
    at_end : (o : Option (ℕ × ℕ)) → FindsChar 10 w o → MatchOption o (length w ≡ 0) (λ q. q.1 ≡ 0) → length w ≡ 0
    at_end None f p = p
    at_end (Some q) f p = let next = f.1.ends in absurd (omega arith)

good_line : (text rest line next : List ℕ) (number : ℕ) (done : List Content) → SoFar text rest number done → FirstLine rest line next → IsGood line → (n : ℕ) → BadAt next n → (m : ℕ) × (m + 1 ≡ number + 1 + n) × BadAt text m
good_line text rest line next number done s f g n b =
    let p = s.bad (n + 1) (later rest line next n f g b) in
    (p.0, (let e = p.1 in omega arith), p.2)

pub past_remark : (text rest line next : List ℕ) (number : ℕ) (done : List Content) → SoFar text rest number done → FirstLine rest line next → LineIs line Remark → SoFar text next (number + 1) done
past_remark text rest line next number done s f g =
    record {
      spelled = λ cs w. s.spelled cs (remark rest line next cs f g w);
      bad = good_line text rest line next number done s f (inl g);
    }

pub past_record : (text rest line next : List ℕ) (number : ℕ) (done more : List Content) (c : Content) → SoFar text rest number done → FirstLine rest line next → LineIs line (Record c) → more ≡ done ++ c ∷ [] → SoFar text next (number + 1) more
past_record text rest line next number done more c s f g e =
    record {
      spelled = λ cs w. subst (λ v. Spells text v) (sym (ap (λ v. v ++ cs) e ∙ append_assoc done (c ∷ []) cs)) (s.spelled (c ∷ cs) (said rest line next c cs f g w));
      bad = good_line text rest line next number done s f (inr (c, g));
    }

pub all_read : (text rest : List ℕ) (number : ℕ) (done : List Content) → SoFar text rest number done → length rest ≡ 0 → Spells text done
all_read text rest number done s e = subst (Spells text) (append-nil done) (s.spelled [] (nothing rest e))

pub bad_line : (text rest line next : List ℕ) (number : ℕ) (done : List Content) → SoFar text rest number done → FirstLine rest line next → LineIs line Bad → BadAt text number
bad_line text rest line next number done s f g =
    let p = s.bad 1 (first rest line next f g) in
    let same : p.0 ≡ number = let e = p.1 in omega arith in
    subst (BadAt text) same p.2

-- a trimmed line that is not empty and does not begin with # is no remark
in_use : (t : List ℕ) (empty hash : Bool) → empty ≡ false → empty ≡ eqb (length t) 0 → hash ≡ false → Decides hash (get_or t 0 0 ≡ 35) → IsRemark t → ⊥
in_use t empty hash e p h d r = elim r [
  | inl none ↦ eqb-false (length t) 0 (sym p ∙ e) (ap length none)
  | inr sign ↦ both_ways hash h (d.1 sign)
]

pub parsed_some : (t : List ℕ) (o : Option Content) (c : Content) → o ≡ Some c → ParsedAs t o → t ≡ text_of c
parsed_some t o c e p = subst (ParsedAs t) e p

pub parsed_none : (t : List ℕ) (o : Option Content) → o ≡ None → ParsedAs t o → (c : Content) → Fits c → t ≡ text_of c → ⊥
parsed_none t o e p = subst (ParsedAs t) e p

pub line_is : (line : List ℕ) (l k : Line) → l ≡ k → LineIs line l → LineIs line k
line_is line l k e p = subst (LineIs line) e p

-- the text of a record on a line that is in use
pub on_line : (line t shown : List ℕ) (empty hash : Bool) → Trimmed line t → empty ≡ false → empty ≡ eqb (length t) 0 → hash ≡ false → Decides hash (get_or t 0 0 ≡ 35) → BehindPlace t shown → OnLine line shown
on_line line t shown empty hash trim e p h d b = record { whole = t; trimmed = trim; used = in_use t empty hash e p h d; text = b }
