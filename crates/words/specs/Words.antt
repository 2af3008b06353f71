-- The words of a text, and the number that a word writes.
-- Assumes nothing.
use Rattle.std.specs.Prelude.{◌≡◌, ℕ, ◌^◌, ◌<◌, List, [], ◌∷◌, ◌++◌, length}
use Rattle.std.specs.Char.{is_whitespace, is_not_whitespace}
use Rattle.std.specs.Str.{IsUtf8, NoCharPasses, EmptyOrStartsWithPassing}
use Rattle.std.specs.Str.Parse.{IsNumeral, digits_value, without_leading_plus}
use Rattle.words.specs.declared.FewWords.{FewWords}
use Rattle.words.specs.declared.FewWords.TheVariants.{Blank, One, Two, Three, Four, More}

-- the text is white space, then a word, then a rest that is empty or begins with white space
pub record FirstWord (text word rest : List ℕ) : Type 0 where
  pub gap : List ℕ
  pub parts : text ≡ gap ++ (word ++ rest)
  pub gap_is_white : NoCharPasses is_not_whitespace gap
  pub word_is_not_empty : 0 < length word
  pub word_has_no_white : NoCharPasses is_whitespace word
  pub rest_begins_white : (more : List ℕ) × EmptyOrStartsWithPassing is_whitespace rest more

-- These are the words of the text, in order: none of a text of white space only; else the first word and those of the rest.
abbrev pub WordsOf : List ℕ → List (List ℕ) → Type 0
WordsOf text [] = NoCharPasses is_not_whitespace text
WordsOf text (word ∷ ws) = (rest : List ℕ) × FirstWord text word rest × WordsOf rest ws

-- each text has a list of words
abbrev pub WordsExist : Type 0
WordsExist = (text : List ℕ) → IsUtf8 text → (ws : List (List ℕ)) × WordsOf text ws

-- and one only
abbrev pub WordsUnique : Type 0
WordsUnique = (text : List ℕ) (ws us : List (List ℕ)) → WordsOf text ws → WordsOf text us → ws ≡ us

-- a list of words: these few, or more than four
abbrev pub Listed : FewWords → List (List ℕ) → Type 0
Listed Blank ws = ws ≡ []
Listed (One a) ws = ws ≡ a.now ∷ []
Listed (Two a b) ws = ws ≡ a.now ∷ b.now ∷ []
Listed (Three a b c) ws = ws ≡ a.now ∷ b.now ∷ c.now ∷ []
Listed (Four a b c d) ws = ws ≡ a.now ∷ b.now ∷ c.now ∷ d.now ∷ []
Listed More ws = 4 < length ws

-- the word is a decimal numeral of n, maybe behind a plus, and n fits 64 bits
pub record NumeralOf (word : List ℕ) (n : ℕ) : Type 0 where
  pub numeral : IsNumeral 10 (without_leading_plus word)
  pub value : digits_value 10 (without_leading_plus word) ≡ n
  pub fits : n < 2 ^ 64

-- the word is a numeral of no such n
abbrev pub NoNumeral : List ℕ → Type 0
NoNumeral word = (n : ℕ) → NumeralOf word n → ⊥
