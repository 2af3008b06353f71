-- What the writer leaves in an area: the bytes of a record at its front and the rest as it was, or nothing new.
-- Assumes nothing of the area.
use Rattle.std.specs.Prelude.{◌≡◌, ℕ, ◌<◌, ◌≤◌, List, ◌++◌, length, drop, Ok, Err, Result}
use Rattle.tape.specs.declared.contents.Content.{Content}
use Rattle.tape.specs.declared.faults.WriteFault.{WriteFault}
use Rattle.tape.specs.declared.faults.WriteFault.TheVariants.{AreaTooShort}
use Rattle.tape.specs.Contents.{record_bytes}

-- bytes stand at the front of an area that was `before`, and past them it is as it was
pub record Stored (bytes before : List ℕ) (n : ℕ) (after : List ℕ) : Type 0 where
  pub count : n ≡ length bytes
  pub room : n ≤ length before
  pub area : after ≡ bytes ++ drop n before

-- the area was too short for the bytes, and is as it was
pub record Refused (bytes before : List ℕ) (f : WriteFault) (after : List ℕ) : Type 0 where
  pub told : f ≡ AreaTooShort
  pub short : length before < length bytes
  pub area : after ≡ before

abbrev pub Puts : List ℕ → List ℕ → Result ℕ WriteFault → List ℕ → Type 0
Puts bytes before (Ok n) after = Stored bytes before n after
Puts bytes before (Err f) after = Refused bytes before f after

abbrev pub Wrote : Content → List ℕ → Result ℕ WriteFault → List ℕ → Type 0
Wrote c before r after = Puts (record_bytes c) before r after
