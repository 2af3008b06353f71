-- A text has one first word, and one list of words.
use Rattle.std.proofs.Common.{◌≡◌, ℕ, suc, ◌<◌, ◌≤◌, Bool, true, false, not, List, [], ◌∷◌, ◌++◌, length, Some, Bor, refl, sym, ap, ap₂, ◌∙◌, subst, append_assoc, arith, length-append}
use Rattle.std.specs.Char.{is_whitespace, is_not_whitespace}
use Rattle.std.specs.Str.{NonePass, EmptyOrStartsWithPassing}
use Rattle.std.specs.Str.Iter.{split_whitespace_rest, split_whitespace_steps}
use Rattle.std.specs.declared.str.SplitWhitespace.{SplitWhitespace}
use Rattle.std.proofs.lemmas.Str.{encode_same, length-encode, len_utf8_bounds}
use lib.Utf8.{encode, encodes}
use Rattle.words.specs.Words.{FirstWord, WordsOf}

-- white space is no other character
not_both : (b : Bool) → b ≡ false → not b ≡ false → ⊥
not_both true e f = cc
not_both false e f = cc

-- a character takes a byte at least
encode_some : (c : ℕ) (x : List ℕ) → 0 < length (encode c ++ x)
encode_some c x = omega (arith, length-append (encode c) x, length-encode c, (len_utf8_bounds c).0)

-- the text begins with a character that is not white space
record Dark (x : List ℕ) : Type 0 where
  pub first : ℕ
  pub after : List ℕ
  pub is_dark : is_whitespace first ≡ false
  pub whole : x ≡ encode first ++ after

-- what follows white space, where both begin dark
white_same : (gs hs x y : List ℕ) → NonePass is_not_whitespace gs → NonePass is_not_whitespace hs → Dark x → Dark y
    → encodes gs ++ x ≡ encodes hs ++ y → x ≡ y
white_same [] [] x y p q d f e = e
white_same [] (h ∷ hs) x y p q d f e =
    let k = encode_same d.first h d.after (encodes hs ++ y) (sym d.whole ∙ e ∙ append_assoc (encode h) (encodes hs) y) in
    absurd (not_both (is_whitespace h) (subst (λ c. is_whitespace c ≡ false) k.0 d.is_dark) q.0)
white_same (g ∷ gs) [] x y p q d f e =
    let k = encode_same f.first g f.after (encodes gs ++ x) (sym f.whole ∙ sym e ∙ append_assoc (encode g) (encodes gs) x) in
    absurd (not_both (is_whitespace g) (subst (λ c. is_whitespace c ≡ false) k.0 f.is_dark) p.0)
white_same (g ∷ gs) (h ∷ hs) x y p q d f e =
    let k = encode_same g h (encodes gs ++ x) (encodes hs ++ y) (sym (append_assoc (encode g) (encodes gs) x) ∙ e ∙ append_assoc (encode h) (encodes hs) y) in
    white_same gs hs x y p.1 q.1 d f k.1

-- white space only has nothing dark
white_only : (gs hs x : List ℕ) → NonePass is_not_whitespace gs → NonePass is_not_whitespace hs → Dark x → encodes gs ≡ encodes hs ++ x → ⊥
white_only [] hs x p q d e =
    let n : 0 < length x = subst (λ l. 0 < length l) (sym d.whole) (encode_some d.first d.after) in
    omega (arith, ap length e, length-append (encodes hs) x)
white_only (g ∷ gs) [] x p q d e =
    let k = encode_same d.first g d.after (encodes gs) (sym d.whole ∙ sym e) in
    not_both (is_whitespace g) (subst (λ c. is_whitespace c ≡ false) k.0 d.is_dark) p.0
white_only (g ∷ gs) (h ∷ hs) x p q d e =
    let k = encode_same g h (encodes gs) (encodes hs ++ x) (e ∙ append_assoc (encode h) (encodes hs) x) in
    white_only gs hs x p.1 q.1 d k.1

-- the text is empty or begins with white space
abbrev Light : List ℕ → Type 0
Light x = (more : List ℕ) × EmptyOrStartsWithPassing is_whitespace x more

-- no such text begins dark
light_not_dark : (x y : List ℕ) (c : ℕ) → Light x → is_whitespace c ≡ false → x ≡ encode c ++ y → ⊥
light_not_dark x y c light dark e =
    let w = light.1 (subst (λ l. 0 < length l) (sym e) (encode_some c y)) in
    let k = encode_same w.0 c light.0 y (sym w.2 ∙ e) in
    let f : is_whitespace c ≡ true = subst (λ d. is_whitespace d ≡ true) k.0 w.1 in
    cc

-- a word, and what follows it
word_same : (ms ns x y : List ℕ) → NonePass is_whitespace ms → NonePass is_whitespace ns → Light x → Light y
    → encodes ms ++ x ≡ encodes ns ++ y → (encodes ms ≡ encodes ns) × (x ≡ y)
word_same [] [] x y p q a b e = (refl, e)
word_same [] (n ∷ ns) x y p q a b e = absurd (light_not_dark x (encodes ns ++ y) n a q.0 (e ∙ append_assoc (encode n) (encodes ns) y))
word_same (m ∷ ms) [] x y p q a b e = absurd (light_not_dark y (encodes ms ++ x) m b p.0 (sym e ∙ append_assoc (encode m) (encodes ms) x))
word_same (m ∷ ms) (n ∷ ns) x y p q a b e =
    let k = encode_same m n (encodes ms ++ x) (encodes ns ++ y) (sym (append_assoc (encode m) (encodes ms) x) ∙ e ∙ append_assoc (encode n) (encodes ns) y) in
    let rest = word_same ms ns x y p.1 q.1 a b k.1 in
    (ap₂ (λ (l r : List ℕ). l ++ r) (ap encode k.0) rest.0, rest.1)

-- a word that is not empty begins dark
word_dark : (ms w x : List ℕ) → NonePass is_whitespace ms → encodes ms ≡ w → 0 < length w → Dark (w ++ x)
word_dark [] w x p e n = absurd (omega (arith, ap length e))
word_dark (m ∷ ms) w x p e n = record {
  first = m;
  after = encodes ms ++ x;
  is_dark = p.0;
  whole = ap (λ l. l ++ x) (sym e) ∙ append_assoc (encode m) (encodes ms) x;
}

module _ {text w r : List ℕ} (one : FirstWord text w r) where
  begins_dark : Dark (w ++ r)
  begins_dark = word_dark one.word_has_no_white.0 w r one.word_has_no_white.2 one.word_has_no_white.1 one.word_is_not_empty

  -- one first word, and one rest
  pub first_word_same : (v s : List ℕ) → FirstWord text v s → (w ≡ v) × (r ≡ s)
  first_word_same v s two =
      let gaps = one.gap_is_white in
      let hops = two.gap_is_white in
      let ours = one.word_has_no_white in
      let theirs = two.word_has_no_white in
      let same : w ++ r ≡ v ++ s = white_same gaps.0 hops.0 (w ++ r) (v ++ s) gaps.2 hops.2 begins_dark (word_dark theirs.0 v s theirs.2 theirs.1 two.word_is_not_empty)
      (ap (λ l. l ++ (w ++ r)) gaps.1 ∙ sym one.parts ∙ two.parts ∙ ap (λ l. l ++ (v ++ s)) (sym hops.1)) in
      let both = word_same ours.0 theirs.0 r s ours.2 theirs.2 one.rest_begins_white two.rest_begins_white
      (ap (λ l. l ++ r) ours.1 ∙ same ∙ ap (λ l. l ++ s) (sym theirs.1)) in
      (sym ours.1 ∙ both.0 ∙ theirs.1, both.1)

-- a text of white space only has no first word
no_first_word : (text w r : List ℕ) → WordsOf text [] → FirstWord text w r → ⊥
no_first_word text w r white one =
    white_only white.0 one.gap_is_white.0 (w ++ r) white.2 one.gap_is_white.2 (begins_dark one)
    (white.1 ∙ one.parts ∙ ap (λ l. l ++ (w ++ r)) (sym one.gap_is_white.1))

pub words_unique : (ws us : List (List ℕ)) (text : List ℕ) → WordsOf text ws → WordsOf text us → ws ≡ us
words_unique [] [] text a b = refl
words_unique [] (u ∷ us) text a b = absurd (no_first_word text u b.0 a b.1)
words_unique (w ∷ ws) [] text a b = absurd (no_first_word text w a.0 b a.1)
words_unique (w ∷ ws) (u ∷ us) text a b =
    let both = first_word_same a.1 u b.0 b.1 in
    ap₂ (λ (x : List ℕ) (xs : List (List ℕ)). x ∷ xs) both.0 (words_unique ws us b.0 (subst (λ l. WordsOf l ws) both.1 a.2) b.2)

-- words behind a first word: one more at least
pub one_more : (text w rest : List ℕ) (n : ℕ) → FirstWord text w rest → ((us : List (List ℕ)) → WordsOf rest us → n ≤ length us)
    → (ws : List (List ℕ)) → WordsOf text ws → suc n ≤ length ws
one_more text w rest n one least [] a = absurd (no_first_word text w rest a one)
one_more text w rest n one least (v ∷ ws) a =
    let both = first_word_same one v a.0 a.1 in
    omega (arith, least ws (subst (λ l. WordsOf l ws) (sym both.1) a.2))

-- what one step of `split_whitespace` gives is the first word of what was left
pub first_word_of : (s : SplitWhitespace) (x : Bor (List ℕ)) (t : SplitWhitespace) → split_whitespace_steps s (Some x) t
    → FirstWord (split_whitespace_rest s) x.now (split_whitespace_rest t)
first_word_of s x t step = record {
  gap = step.0;
  parts = step.1;
  gap_is_white = step.3;
  word_is_not_empty = step.2;
  word_has_no_white = step.4;
  rest_begins_white = step.5;
}
