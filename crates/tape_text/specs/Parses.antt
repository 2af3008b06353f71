-- A record back from its text: the text is cut at blanks, and the words are read as numbers.
-- Assumes that each field fits its width.
use Rattle.std.specs.Prelude.{◌≡◌, ℕ, ◌<◌, ◌⊎◌, List, [], ◌∷◌, ◌++◌, length, Some, None, Option, ◌≢◌, slice_index}
use Rattle.tape.specs.declared.contents.Ends.{Ends}
use Rattle.tape.specs.declared.contents.LaneRate.{LaneRate}
use Rattle.tape.specs.declared.contents.HeadFields.{HeadFields}
use Rattle.tape.specs.declared.contents.Content.{Content}
use Rattle.tape.specs.Laws.{EndsFit, LaneFits, HeadFits, Fits}
use Rattle.tape.specs.Texts.{ends_words, lane_words, head_words, text_of}

-- the character does not stand in the text
abbrev pub Lacks : List ℕ → ℕ → Type 0
Lacks text c = (i : ℕ) → i < length text → slice_index text i ≢ c

-- the text up to the first such character, and the text behind it
pub record CutThere (text : List ℕ) (c : ℕ) (before behind : List ℕ) : Type 0 where
  pub first : Lacks before c
  pub whole : text ≡ before ++ (c ∷ behind)

-- no such character: the whole text, and nothing behind it
pub record NoCut (text : List ℕ) (c : ℕ) (before behind : List ℕ) : Type 0 where
  pub none : Lacks text c
  pub whole : before ≡ text
  pub rest : behind ≡ []

-- a text cut at an ASCII character
abbrev pub CutIs : List ℕ → ℕ → List ℕ → List ℕ → Type 0
CutIs text c before behind = c < 128 → CutThere text c before behind ⊎ NoCut text c before behind

-- fields as they were written come back
abbrev pub EndsBack : List ℕ → Option Ends → Type 0
EndsBack text r = (e : Ends) → EndsFit e → text ≡ ends_words e → r ≡ Some e

abbrev pub LaneBack : List ℕ → Option LaneRate → Type 0
LaneBack text r = (l : LaneRate) → LaneFits l → text ≡ lane_words l → r ≡ Some l

abbrev pub HeadBack : List ℕ → Option HeadFields → Type 0
HeadBack text r = (h : HeadFields) → HeadFits h → text ≡ head_words h → r ≡ Some h

abbrev pub ContentBack : List ℕ → Option Content → Type 0
ContentBack text r = (c : Content) → Fits c → text ≡ text_of c → r ≡ Some c

-- the content that has this text, or none where no content has it
abbrev pub ParsedAs : List ℕ → Option Content → Type 0
ParsedAs text (Some c) = text ≡ text_of c
ParsedAs text None = (c : Content) → Fits c → text ≢ text_of c
