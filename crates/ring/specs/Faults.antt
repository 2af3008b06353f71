-- The faults of a plan: their numbers and texts, the condition of each, their order, and which one is told.
-- Assumes nothing.
use Rattle.std.specs.Prelude.{◌≡◌, ℕ, ◌+◌, ◌*◌, ◌<◌, ◌≤◌, ◌⊎◌, List, length, Some, None, Option, Ok, Err, Result, codes, slice_index_or}
use Rattle.trips.specs.Links.{Ends, Cross, SameLink}
use Rattle.ring.specs.declared.Area.{Area}
use Rattle.ring.specs.declared.Link.{Link}
use Rattle.ring.specs.declared.PlanFault.{PlanFault}
use Rattle.ring.specs.declared.PlanFault.TheVariants.{Terminals, ShortArea, BadEnds, Repeats, Crosses}
use Rattle.ring.specs.Linked.{ends_at}

-- The fewest terminals that make a ring, and the most that a plan may have.
abbrev pub fewest : ℕ
fewest = 3

abbrev pub most : ℕ
most = 4096

-- The numbers by which callers are told the faults.
abbrev pub fault_number : PlanFault → ℕ
fault_number ShortArea = 1
fault_number Terminals = 3
fault_number (BadEnds i) = 4
fault_number (Repeats i) = 5
fault_number (Crosses i) = 6

-- Why a plan is refused, in words.
abbrev pub reason : PlanFault → List ℕ
reason Terminals = codes "a ring has 3 to 4096 terminals"
reason ShortArea = codes "an area is too short"
reason (BadEnds i) = codes "an end is no terminal, or the ends are equal"
reason (Repeats i) = codes "it repeats an earlier link"
reason (Crosses i) = codes "it crosses an earlier link"

-- The index of the link that a fault is of, if it is one's.
abbrev pub faulty_link : PlanFault → Option ℕ
faulty_link Terminals = None
faulty_link ShortArea = None
faulty_link (BadEnds i) = Some i
faulty_link (Repeats i) = Some i
faulty_link (Crosses i) = Some i

-- The order in which faults are looked for: the number of terminals, the areas, then each link in turn.
-- Turn 2 is left free for a check of the book that owns the plan.
abbrev pub turn : PlanFault → ℕ
turn Terminals = 0
turn ShortArea = 1
turn (BadEnds i) = 3 + 3 * i
turn (Repeats i) = 4 + 3 * i
turn (Crosses i) = 5 + 3 * i

-- An end is no terminal below n, or the ends are equal.
abbrev pub Bad : ℕ → Ends → Type 0
Bad n e = (n ≤ e.from) ⊎ ((n ≤ e.to) ⊎ (e.from ≡ e.to))

-- Two links conflict if they have the same two ends or cross.
abbrev pub Conflict : Ends → Ends → Type 0
Conflict e f = SameLink e f ⊎ Cross e f

-- The relation R holds between e and one of the first m links.
abbrev pub AmongFirst : (Ends → Ends → Type 0) → Ends → List Link → ℕ → Type 0
AmongFirst R e links m = (k : ℕ) × (k < m) × R e (ends_at links k)

-- It holds between e and one of the links.
abbrev pub Among : (Ends → Ends → Type 0) → Ends → List Link → Type 0
Among R e links = AmongFirst R e links (length links)

-- It holds between the link i and an earlier one.
abbrev pub Earlier : (Ends → Ends → Type 0) → List Link → ℕ → Type 0
Earlier R links i = AmongFirst R (ends_at links i) links i

abbrev pub Short : Area → Type 0
Short area = area.given < area.needed

abbrev pub SomeShort : List Area → Type 0
SomeShort areas = (k : ℕ) × (k < length areas) × Short (slice_index_or areas k (record { needed = 0; given = 0 }))

-- The condition of each fault, for a plan of n terminals, lent areas and links.
abbrev pub Condition : ℕ → List Area → List Link → PlanFault → Type 0
Condition n areas links Terminals = (n < fewest) ⊎ (most < n)
Condition n areas links ShortArea = SomeShort areas
Condition n areas links (BadEnds i) = (i < length links) × Bad n (ends_at links i)
Condition n areas links (Repeats i) = (i < length links) × Earlier SameLink links i
Condition n areas links (Crosses i) = (i < length links) × Earlier Cross links i

-- The answer of a check that looks for the faults whose turn lies from a up to b: Ok if none of them holds, else the first
-- that does.
abbrev pub FirstIn : (PlanFault → Type 0) → ℕ → ℕ → Result Unit PlanFault → Type 0
FirstIn Holds a b (Ok _) = (g : PlanFault) → a ≤ turn g → turn g < b → Holds g → ⊥
FirstIn Holds a b (Err f) = Holds f × (a ≤ turn f) × (turn f < b) × ((g : PlanFault) → a ≤ turn g → turn g < turn f → Holds g → ⊥)

-- The answer of all checks together: Ok exactly if no fault holds, else the first that does.
abbrev pub First : (PlanFault → Type 0) → Result Unit PlanFault → Type 0
First Holds (Ok _) = (g : PlanFault) → Holds g → ⊥
First Holds (Err f) = Holds f × ((g : PlanFault) → turn g < turn f → Holds g → ⊥)
