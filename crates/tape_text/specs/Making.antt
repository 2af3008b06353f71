-- A tape from its text: what a line is, the contents that a text spells, and the first line that is bad.
-- Assumes nothing of the text.
use Rattle.std.specs.Prelude.{◌≡◌, ℕ, ◌+◌, ◌<◌, ◌⊎◌, List, [], ◌∷◌, ◌++◌, length, take, drop, codes, decimal, Ok, Err, vec_items, Result, Vec, ◌≢◌, slice_index}
use Rattle.std.specs.Char.{is_not_whitespace}
use Rattle.std.specs.Str.{NoCharPasses, EmptyOrStartsWithPassing, EmptyOrEndsWithPassing}
use Rattle.std.specs.declared.alloc.Global.{Global}
use Rattle.tape.specs.declared.contents.Content.{Content}
use Rattle.tape.specs.Laws.{Fits, tape_bytes}
use Rattle.tape_text.specs.declared.making.Line.{Line}
use Rattle.tape_text.specs.declared.making.Line.TheVariants.{Remark, Record, Bad}
use Rattle.tape_text.specs.declared.making.MakeFault.{MakeFault}
use Rattle.tape_text.specs.declared.making.MakeFault.TheVariants.{BadLine, NoMemory}
use Rattle.tape.specs.Texts.{text_of}
use Rattle.tape_text.specs.Parses.{Lacks, CutThere, CutIs}

-- t is the text without the white space around it
abbrev pub Trimmed : List ℕ → List ℕ → Type 0
Trimmed text t =
    (m : ℕ) × (n : ℕ) × (t ≡ take n (drop m text)) × NoCharPasses is_not_whitespace (take m text) × NoCharPasses is_not_whitespace (drop n (drop m text))
    × ((rest : List ℕ) × EmptyOrStartsWithPassing is_not_whitespace t rest) × EmptyOrEndsWithPassing is_not_whitespace t

-- what stands behind the first colon (58), trimmed, or the text itself where it has none
abbrev pub BehindPlace : List ℕ → List ℕ → Type 0
BehindPlace text t =
    ((before : List ℕ) × (behind : List ℕ) × CutThere text 58 before behind × Trimmed behind t) ⊎ (Lacks text 58 × (t ≡ text))

-- an empty text is a remark, and one that begins with # (35)
abbrev pub IsRemark : List ℕ → Type 0
IsRemark t = (t ≡ []) ⊎ (slice_index t 0 ≡ 35)

-- a line that is no remark, with the text of a record on it
pub record OnLine (line t : List ℕ) : Type 0 where
  pub whole : List ℕ
  pub trimmed : Trimmed line whole
  pub used : IsRemark whole → ⊥
  pub text : BehindPlace whole t

abbrev pub LineIs : List ℕ → Line → Type 0
LineIs line Remark = (t : List ℕ) × Trimmed line t × IsRemark t
LineIs line (Record c) = (t : List ℕ) × OnLine line t × (t ≡ text_of c)
LineIs line Bad = (t : List ℕ) × OnLine line t × ((c : Content) → Fits c → t ≢ text_of c)

-- a text with something on it, its first line, and what follows the line's end (10)
pub record FirstLine (text line rest : List ℕ) : Type 0 where
  pub some : 0 < length text
  pub cut : CutIs text 10 line rest

-- the contents of the records that a text spells, line by line
pub data Spells : List ℕ → List Content → Type 0 where
  nothing : (text : List ℕ) → length text ≡ 0 → Spells text []
  remark : (text line rest : List ℕ) (cs : List Content) → FirstLine text line rest → LineIs line Remark → Spells rest cs → Spells text cs
  said : (text line rest : List ℕ) (c : Content) (cs : List Content) → FirstLine text line rest → LineIs line (Record c) → Spells rest cs → Spells text (c ∷ cs)

-- a line that is a remark or a record
abbrev pub IsGood : List ℕ → Type 0
IsGood line = LineIs line Remark ⊎ ((c : Content) × LineIs line (Record c))

-- the number, from 1, of the first line that is neither
pub data BadAt : List ℕ → ℕ → Type 0 where
  first : (text line rest : List ℕ) → FirstLine text line rest → LineIs line Bad → BadAt text 1
  later : (text line rest : List ℕ) (n : ℕ) → FirstLine text line rest → IsGood line → BadAt rest n → BadAt text (n + 1)

-- a refusal in words
abbrev pub make_fault_text : MakeFault → List ℕ
make_fault_text (BadLine n) = codes "line " ++ (decimal n ++ codes ": not a record")
make_fault_text NoMemory = codes "no memory"

abbrev pub WhyNot : List ℕ → MakeFault → Type 0
WhyNot text (BadLine n) = BadAt text n
WhyNot text NoMemory = Unit {0}

abbrev pub Reads : List ℕ → Result (Vec Content Global) MakeFault → Type 0
Reads text (Ok v) = Spells text (vec_items v)
Reads text (Err f) = WhyNot text f

abbrev pub Makes : List ℕ → Result (Vec ℕ Global) MakeFault → Type 0
Makes text (Ok v) = (cs : List Content) × Spells text cs × (vec_items v ≡ tape_bytes cs)
Makes text (Err f) = WhyNot text f
