-- The numbers of the tape's faults and of the layers, and what a fault tells when it is carried up.
-- Assumes nothing.
use Rattle.std.specs.Prelude.{ℕ, List, ◌++◌, codes, decimal}
use Rattle.tape.specs.declared.faults.Reason.{Reason}
use Rattle.tape.specs.declared.faults.Reason.TheVariants.{UnknownKind, CutShort, OutOfTurn, PlanTooLarge, TapeTooLong}
use Rattle.tape.specs.declared.faults.Layer.{Layer}
use Rattle.tape.specs.declared.faults.Layer.TheVariants.{Tape, Book, Rate}
use Rattle.tape.specs.declared.faults.TapeFault.{TapeFault}
use Rattle.tape.specs.declared.faults.WriteFault.{WriteFault}
use Rattle.tape.specs.declared.faults.WriteFault.TheVariants.{AreaTooShort}
use Rattle.tape.specs.declared.faults.Fault.{Fault}

-- faults of the tape's writer
abbrev pub reason_number : Reason → ℕ
reason_number UnknownKind = 21
reason_number CutShort = 22
reason_number OutOfTurn = 23
reason_number PlanTooLarge = 24
reason_number TapeTooLong = 25

-- the reasons in words
abbrev pub reason_text : Reason → List ℕ
reason_text UnknownKind = codes "unknown kind of record"
reason_text CutShort = codes "cut short"
reason_text OutOfTurn = codes "record out of turn"
reason_text PlanTooLarge = codes "plan too large"
reason_text TapeTooLong = codes "tape too long"

-- a fault with its number and its place
abbrev pub fault_text : TapeFault → List ℕ
fault_text f = codes "fault " ++ (decimal (reason_number f.reason) ++ (codes " at " ++ (decimal f.place ++ (codes ": " ++ reason_text f.reason))))

-- why nothing is written, in words
abbrev pub refusal_text : WriteFault → List ℕ
refusal_text AreaTooShort = codes "area too short"

-- a fault of the package that lends the area
abbrev pub refusal_number : WriteFault → ℕ
refusal_number AreaTooShort = 1

abbrev pub layer_number : Layer → ℕ
layer_number Tape = 1
layer_number Book = 2
layer_number Rate = 3

-- carried up, a fault keeps its layer, number and place; the tape's faults name no link
abbrev pub told_tape : TapeFault → Fault
told_tape f = record { layer = Tape; number = reason_number f.reason; place = f.place; link = 0 }

abbrev pub told_writing : WriteFault → Fault
told_writing f = record { layer = Tape; number = refusal_number f; place = 0; link = 0 }
