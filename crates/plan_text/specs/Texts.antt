-- What writing does: a text grows.
-- Assumes nothing.
use Rattle.std.specs.Prelude.{◌≡◌, List, ℕ, ◌++◌, string_bytes, String}

-- the text has grown by these words
abbrev pub GrownBy : {A : Type 0} → String A → String A → List ℕ → Type 0
GrownBy before after words = string_bytes after ≡ string_bytes before ++ words

-- the text has grown by words of which this is true
abbrev pub GrownByA : {A : Type 0} → (List ℕ → Type 0) → String A → String A → Type 0
GrownByA IsTold before after = (words : List ℕ) × (IsTold words × GrownBy before after words)
