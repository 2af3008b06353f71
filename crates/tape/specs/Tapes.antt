-- Runs over whole tapes: what they answer is told by the tape's meaning.
-- Assumes nothing of the tape.
use Rattle.std.specs.Prelude.{◌≡◌, ℕ, ◌<◌, ◌⊎◌, List, ◌++◌, map, length, take, drop, Ok, Err, Result}
use Rattle.tape.specs.declared.contents.Content.{Content}
use Rattle.tape.specs.declared.faults.Fault.{Fault}
use Rattle.tape.specs.declared.faults.TapeFault.{TapeFault}
use Rattle.tape.specs.declared.faults.WriteFault.{WriteFault}
use Rattle.tape.specs.declared.faults.WriteFault.TheVariants.{AreaTooShort}
use Rattle.tape.specs.Faults.{told_tape, told_writing}
use Rattle.tape.specs.Tape.{Part, regular, faulty, Means}
use Rattle.tape.specs.Writes.{Stored}
use Rattle.tape.specs.Laws.{part_of, placed}

-- a regular tape with n records
pub record CountIs (t : List ℕ) (n : ℕ) : Type 0 where
  pub records : List Part
  pub means : Means t records regular
  pub count : n ≡ length records

-- a faulty tape, and its fault as it is carried up
pub record FaultIs (t : List ℕ) (f : Fault) : Type 0 where
  pub records : List Part
  pub fault : TapeFault
  pub means : Means t records (faulty fault)
  pub told : f ≡ told_tape fault

abbrev pub Counts : List ℕ → Result ℕ Fault → Type 0
Counts t (Ok n) = CountIs t n
Counts t (Err f) = FaultIs t f

-- the bytes that were written are a tape of these contents, each at its place
abbrev pub ReadBack : List Content → Result ℕ WriteFault → List ℕ → Type 0
ReadBack cs (Ok n) area = Means (take n area) (map part_of (placed 0 cs)) regular
ReadBack cs (Err f) area = Unit {0}

-- a regular tape is written again as it is
pub record Same (t before : List ℕ) (n : ℕ) (after : List ℕ) : Type 0 where
  pub records : List Part
  pub means : Means t records regular
  pub stored : Stored t before n after

-- a faulty tape is written again up to the place of its fault
pub record UpTo (t before : List ℕ) (f : Fault) (after : List ℕ) : Type 0 where
  pub faulted : FaultIs t f
  pub area : after ≡ take f.place t ++ drop f.place before

-- an area shorter than the tape is left as it was
pub record NoRoom (t before : List ℕ) (f : Fault) (after : List ℕ) : Type 0 where
  pub told : f ≡ told_writing AreaTooShort
  pub short : length before < length t
  pub area : after ≡ before

abbrev pub Rewrites : List ℕ → List ℕ → Result ℕ Fault → List ℕ → Type 0
Rewrites t before (Ok n) after = Same t before n after
Rewrites t before (Err f) after = NoRoom t before f after ⊎ UpTo t before f after
