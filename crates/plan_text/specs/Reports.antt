-- What is told of a text of commands: the plans in it one after another, each where it ends.
-- Assumes the terms of `Commands`, `Laid`, `Trees` and `Pictures`.
use Rattle.std.specs.Prelude.{◌≡◌, ℕ, ◌+◌, ◌-◌, ◌<◌, ◌≤◌, ◌*◌, ◌≢◌, ◌⊎◌, min, List, [], ◌∷◌, ◌++◌, length, Option, Some, None, IsSome, Result, Ok, Err, codes, decimal}
use Rattle.std.specs.Str.Lines.{IsFirstLine}
use Rattle.ring.specs.declared.Link.{Link}
use Rattle.ring.specs.declared.PlanFault.{PlanFault}
use Rattle.ring.specs.Faults.{most}
use Rattle.shapes.specs.declared.Shape.{Shape}
use Rattle.shapes.specs.declared.Shape.TheVariants.{Bare}
use Rattle.shapes.specs.Shapes.{Drawn}
use Rattle.plan_text.specs.declared.laid.Laid.{Laid}
use Rattle.plan_text.specs.declared.telling.View.{View}
use Rattle.plan_text.specs.declared.telling.View.TheVariants.{Summary, Tree, Picture}
use Rattle.plan_text.specs.declared.commands.Command.{Command}
use Rattle.plan_text.specs.declared.commands.Command.TheVariants.{Blank, Plan, Link as ALink, Shape as AShape}
use Rattle.plan_text.specs.declared.commands.UnknownCommand.{UnknownCommand}
use Rattle.plan_text.specs.Commands.{CommandIs}
use Rattle.plan_text.specs.Laid.{LaidOut, Refused}
use Rattle.plan_text.specs.Trees.{SummaryText, tree_text, fault_text}
use Rattle.plan_text.specs.Pictures.{PictureText}

-- what is shown of an accepted plan
abbrev pub ViewText : View → Laid → List ℕ → Type 0
ViewText Summary laid words = SummaryText laid words
ViewText Tree laid words = (summary : List ℕ) × (SummaryText laid summary × (words ≡ summary ++ tree_text laid))
ViewText Picture laid words = PictureText laid words

-- what is told of a plan: the view of it if it is accepted, else why it is refused
abbrev pub PlanTold : View → ℕ → List Link → List ℕ → Type 0
PlanTold view n links words =
    ((laid : Laid) × (LaidOut n links laid × ViewText view laid words))
    ⊎ ((fault : PlanFault) × (Refused n links fault × (words ≡ fault_text links fault)))

abbrev pub title : ℕ → ℕ → List ℕ
title n count = codes "plan, terminals: " ++ (decimal n ++ (codes ", links: " ++ (decimal count ++ codes "\n")))

-- the line before what is told of a plan; a picture has none
abbrev pub title_text : View → ℕ → ℕ → List ℕ
title_text Picture n count = []
title_text Summary n count = title n count
title_text Tree n count = title n count

-- The plan that is being read, if one is: its number of terminals, and the links so far.
pub record Reading : Type 0 where
  pub terminals : Option ℕ
  pub links : List Link

abbrev pub nothing_read : Reading
nothing_read = record { terminals = None; links = [] }

-- what is told where the plan that is being read ends
abbrev pub EndTold : View → Option ℕ → List Link → List ℕ → Type 0
EndTold view None links words = words ≡ []
EndTold view (Some n) links words = (told : List ℕ) × (PlanTold view n links told × (words ≡ title_text view n (length links) ++ told))

-- the same of the plan that is being read
abbrev pub ReadingEnds : View → Reading → List ℕ → Type 0
ReadingEnds view reading words = EndTold view reading.terminals reading.links words

-- The links of a shape: none where it has none or the ring fewer than two terminals, else the sides of its triangulation;
-- above the most terminals, those of the most.
abbrev pub ShapeLinks : Shape → ℕ → List Link → Type 0
ShapeLinks shape n links =
    (((shape ≡ Bare) ⊎ (n < 2)) × (links ≡ []))
    ⊎ ((shape ≢ Bare) × ((2 ≤ n) × ((length links + 3 ≡ 2 * min n most) × Drawn shape (min n most - 1) links)))

-- what is told of a line that cannot be carried out
abbrev pub complaint : ℕ → List ℕ → List ℕ → List ℕ
complaint number line why = codes "line " ++ (decimal number ++ (why ++ (line ++ codes "\n")))

-- a line that gives a link adds it to the plan that is being read
abbrev pub LinkRead : ℕ → List ℕ → Link → Reading → Reading → List ℕ → Type 0
LinkRead number line link before after words =
    (IsSome before.terminals × ((after ≡ record { terminals = before.terminals; links = before.links ++ link ∷ [] }) × (words ≡ [])))
    ⊎ ((before.terminals ≡ None) × ((after ≡ before) × (words ≡ complaint number line (codes " stands in no plan: "))))

-- a line that names a shape ends the plan that is being read, and is told of at once
pub record ShapeTold (view : View) (line : List ℕ) (shape : Shape) (n : ℕ) (before : Reading) (words : List ℕ) : Type 0 where
  pub ended : List ℕ
  pub links : List Link
  pub told : List ℕ
  pub end : EndTold view before.terminals before.links ended
  pub drawn : ShapeLinks shape n links
  pub plan : PlanTold Summary n links told
  pub all : words ≡ ended ++ (line ++ (codes ": " ++ told))

-- what a command, or a line that names none, does to the plan that is being read, and what is told of it
abbrev pub Obeyed : View → ℕ → List ℕ → Result Command UnknownCommand → Reading → Reading → List ℕ → Type 0
Obeyed view number line (Ok Blank) before after words = (after ≡ before) × (words ≡ [])
Obeyed view number line (Ok (Plan n)) before after words = (after ≡ record { terminals = Some n; links = [] }) × EndTold view before.terminals before.links words
Obeyed view number line (Ok (ALink link)) before after words = LinkRead number line link before after words
Obeyed view number line (Ok (AShape shape n)) before after words = (after ≡ nothing_read) × ShapeTold view line shape n before words
Obeyed view number line (Err _) before after words = (after ≡ before) × (words ≡ complaint number line (codes " is no command: "))

-- what a line does and what is told of it
pub record LineTold (view : View) (number : ℕ) (line : List ℕ) (before after : Reading) (words : List ℕ) : Type 0 where
  pub command : Result Command UnknownCommand
  pub is : CommandIs line command
  pub obeyed : Obeyed view number line command before after words

-- What is told of a text whose first line has this number, while a plan is being read: of each line in turn, and at the end
-- of the plan that is left.
pub data Told (view : View) : ℕ → Reading → List ℕ → List ℕ → Type 0 where
  at_end : {number : ℕ} {reading : Reading} {text words : List ℕ} → length text ≡ 0 → EndTold view reading.terminals reading.links words → Told view number reading text words
  next : {number : ℕ} {before after : Reading} {text line rest told later words : List ℕ} → 0 < length text → IsFirstLine text line rest
      → LineTold view number line before after told → Told view (number + 1) after rest later → words ≡ told ++ later → Told view number before text words
