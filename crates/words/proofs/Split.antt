-- Each text has words.
use Rattle.std.proofs.Common.{◌≡◌, ◌⊎◌, ℕ, true, false, not, List, [], ◌∷◌, ◌++◌, refl, sym, ap, ◌∙◌, subst, append_assoc, arith, inl, inr, length-append}
use Rattle.std.specs.Char.{is_whitespace, is_not_whitespace}
use Rattle.std.specs.Str.{NonePass, NoCharPasses, EmptyOrStartsWithPassing}
use Rattle.std.proofs.lemmas.Bool.{cases_Bool, and_parts}
use Rattle.std.proofs.lemmas.Str.{NoCharPasses-nil, NoCharPasses-append, length-encode, len_utf8_bounds}
use lib.Utf8.{encode, encodes, scalar, scalars}
use Rattle.words.specs.Words.{WordsOf, WordsExist}

-- The characters up to the first white space, what is behind them, and the words of that.
record Begun (cs : List ℕ) : Type 0 where
  pub word : List ℕ
  pub after : List ℕ
  pub parts : encodes cs ≡ encodes word ++ encodes after
  pub no_white : NonePass is_whitespace word
  pub light : (more : List ℕ) × EmptyOrStartsWithPassing is_whitespace (encodes after) more
  pub ws : List (List ℕ)
  pub words : WordsOf (encodes after) ws

-- the words of a text that begins so
words_of_begun : (word after : List ℕ) → NonePass is_whitespace word → (more : List ℕ) → EmptyOrStartsWithPassing is_whitespace (encodes after) more
    → (ws : List (List ℕ)) → WordsOf (encodes after) ws → (us : List (List ℕ)) × WordsOf (encodes word ++ encodes after) us
words_of_begun [] after p more light ws a = (ws, a)
words_of_begun (c ∷ cs) after p more light ws a = (
  encodes (c ∷ cs) ∷ ws,
  (
    encodes after,
    record {
      gap = [];
      parts = refl;
      gap_is_white = NoCharPasses-nil is_not_whitespace;
      word_is_not_empty = omega (arith, length-append (encode c) (encodes cs), length-encode c, (len_utf8_bounds c).0);
      word_has_no_white = (c ∷ cs, refl, p);
      rest_begins_white = (more, light);
    },
    a,
  ),
)

-- white space in front of a text changes none of its words
words_behind_white : (gap text : List ℕ) (ws : List (List ℕ)) → NoCharPasses is_not_whitespace gap → WordsOf text ws → WordsOf (gap ++ text) ws
words_behind_white gap text [] g a = NoCharPasses-append is_not_whitespace gap text g a
words_behind_white gap text (w ∷ ws) g a = (
  a.0,
  record {
    gap = gap ++ a.1.gap;
    parts = ap (λ l. gap ++ l) a.1.parts ∙ sym (append_assoc gap a.1.gap (w ++ a.0));
    gap_is_white = NoCharPasses-append is_not_whitespace gap a.1.gap g a.1.gap_is_white;
    word_is_not_empty = a.1.word_is_not_empty;
    word_has_no_white = a.1.word_has_no_white;
    rest_begins_white = a.1.rest_begins_white;
  },
  a.2,
)

white_char : (c : ℕ) → is_whitespace c ≡ true → NoCharPasses is_not_whitespace (encode c ++ [])
white_char c e = (c ∷ [], refl, (ap not e, tt))

begun : (cs : List ℕ) → scalars cs ≡ true → Begun cs
begun [] s = record {
  word = [];
  after = [];
  parts = refl;
  no_white = tt;
  light = ([], λ h. absurd (omega arith));
  ws = [];
  words = NoCharPasses-nil is_not_whitespace;
}
begun (c ∷ cs) s =
    let both = and_parts (scalar c) (scalars cs) s in
    let b = begun cs both.1 in
    by b both.0 (cases_Bool (is_whitespace c))
  where
    by : Begun cs → scalar c ≡ true → (is_whitespace c ≡ true) ⊎ (is_whitespace c ≡ false) → Begun (c ∷ cs)
    by b ok (inl white) =
        let found = words_of_begun b.word b.after b.no_white b.light.0 b.light.1 b.ws b.words in
        record {
          word = [];
          after = c ∷ cs;
          parts = refl;
          no_white = tt;
          light = (encodes cs, λ _. (c, white, refl, ok));
          ws = found.0;
          words = subst (λ l. WordsOf l found.0) (append_assoc (encode c) [] (encodes cs))
              (words_behind_white (encode c ++ []) (encodes cs) found.0 (white_char c white) (subst (λ l. WordsOf l found.0) (sym b.parts) found.1));
        }
    by b ok (inr dark) = record {
      word = c ∷ b.word;
      after = b.after;
      parts = ap (λ l. encode c ++ l) b.parts ∙ sym (append_assoc (encode c) (encodes b.word) (encodes b.after));
      no_white = (dark, b.no_white);
      light = b.light;
      ws = b.ws;
      words = b.words;
    }

pub words_exist : WordsExist
words_exist text u =
    let b = begun u.0 u.1.0 in
    let found = words_of_begun b.word b.after b.no_white b.light.0 b.light.1 b.ws b.words in
    (found.0, subst (λ l. WordsOf l found.0) (sym b.parts ∙ u.1.1) found.1)
