-- What one call of the reader shows: the record at its place, the end, or the fault.
-- Assumes that the place is not past the end of the tape.
use Rattle.std.specs.Prelude.{◌≡◌, ℕ, List, length, Some, None, Ok, Err, Option, Result}
use Rattle.tape.specs.declared.faults.TapeFault.{TapeFault}
use Rattle.tape.specs.declared.faults.Reason.{Reason}
use Rattle.tape.specs.declared.faults.Reason.TheVariants.{UnknownKind, CutShort, OutOfTurn, PlanTooLarge, TapeTooLong}
use Rattle.tape.specs.declared.records.Record.{Record}
use Rattle.tape.specs.declared.contents.Placed.{Placed}
use Rattle.tape.specs.Tape.{Part, behind, Stands, UnknownAt, CutAt}
use Rattle.tape.specs.Laws.{part_of}

-- the part of the tape that a record is
abbrev pub part : Record → Part
part r = record { kind = r.kind; place = r.place; body = r.body.now }

-- the reader finds two reasons only
abbrev pub WrongAt : List ℕ → ℕ → Reason → Type 0
WrongAt t p UnknownKind = UnknownAt t p
WrongAt t p CutShort = CutAt t p
WrongAt t p OutOfTurn = ⊥
WrongAt t p PlanTooLarge = ⊥
WrongAt t p TapeTooLong = ⊥

-- a fault at the place, and nothing more is read
pub record Faulted (t : List ℕ) (p : ℕ) (f : TapeFault) (q : ℕ) : Type 0 where
  pub place : f.place ≡ p
  pub wrong : WrongAt t p f.reason
  pub stops : q ≡ length t

-- the record at the place, and the next place is right behind it
pub record Shown (t : List ℕ) (p : ℕ) (x : Part) (q : ℕ) : Type 0 where
  pub place : x.place ≡ p
  pub stands : Stands t x
  pub next : q ≡ behind x

-- from place p the reader answers r and comes to place q
abbrev pub NextIs : List ℕ → ℕ → Result (Option Record) TapeFault → ℕ → Type 0
NextIs t p (Ok None) q = (p ≡ length t) × (q ≡ p)
NextIs t p (Ok (Some r)) q = Shown t p (part r) q
NextIs t p (Err f) q = Faulted t p f q

-- the same with the record's content
abbrev pub NextContentIs : List ℕ → ℕ → Result (Option Placed) TapeFault → ℕ → Type 0
NextContentIs t p (Ok None) q = (p ≡ length t) × (q ≡ p)
NextContentIs t p (Ok (Some x)) q = Shown t p (part_of x) q
NextContentIs t p (Err f) q = Faulted t p f q

-- the same of an item: a record or a fault, or nothing at the end
abbrev pub ItemIs : List ℕ → ℕ → Option (Result Record TapeFault) → ℕ → Type 0
ItemIs t p None q = (p ≡ length t) × (q ≡ p)
ItemIs t p (Some (Ok r)) q = Shown t p (part r) q
ItemIs t p (Some (Err f)) q = Faulted t p f q
