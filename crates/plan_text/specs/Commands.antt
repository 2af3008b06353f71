-- What a line asks for.
-- Assumes nothing.
use Rattle.std.specs.Prelude.{◌≡◌, ℕ, List, [], ◌∷◌, codes, min, Result, Ok, Err}
use Rattle.plan_text.specs.declared.commands.Command.{Command}
use Rattle.plan_text.specs.declared.commands.Command.TheVariants.{Blank, Plan, Link, Shape}
use Rattle.plan_text.specs.declared.commands.UnknownCommand.{UnknownCommand}
use Rattle.shapes.specs.Shapes.{name_of}
use Rattle.words.specs.Words.{WordsOf, NumeralOf}

-- the word is a numeral of this terminal, or of a number past 65,535, which counts as 65,535
abbrev pub TerminalOf : List ℕ → ℕ → Type 0
TerminalOf word terminal = (n : ℕ) × NumeralOf word n × (terminal ≡ min n 65535)

-- the words are those of a command
abbrev pub Names : List (List ℕ) → Command → Type 0
Names ws Blank = ws ≡ []
Names ws (Plan n) = (word : List ℕ) × (ws ≡ codes "plan" ∷ word ∷ []) × NumeralOf word n
Names ws (Link l) =
    (from : List ℕ) × (to : List ℕ) × (ws ≡ codes "link" ∷ from ∷ to ∷ []) × TerminalOf from l.from × TerminalOf to l.to
Names ws (Shape s n) = (word : List ℕ) × (ws ≡ codes "shape" ∷ name_of s ∷ word ∷ []) × NumeralOf word n

-- what the words mean: the command that they name, and where they name none an unknown one
abbrev pub Means : List (List ℕ) → Result Command UnknownCommand → Type 0
Means ws (Ok c) = Names ws c
Means ws (Err _) = (c : Command) → Names ws c → ⊥

-- what the line asks for: what its words mean
abbrev pub CommandIs : List ℕ → Result Command UnknownCommand → Type 0
CommandIs line c = (ws : List (List ℕ)) × WordsOf line ws × Means ws c
