-- The content of a record: the fields whose bytes are its body.
-- Assumes nothing of the record; a body may be longer than its kind's, and the first bytes count.
use Rattle.std.specs.Prelude.{◌≡◌, ◌<◌, ◌≤◌, length, Ok, Err, Result}
use Rattle.tape.specs.declared.contents.Content.{Content}
use Rattle.tape.specs.declared.faults.TapeFault.{TapeFault}
use Rattle.tape.specs.declared.records.Record.{Record}
use Rattle.tape.specs.declared.contents.Placed.{Placed}
use Rattle.tape.specs.Kinds.{body_length}
use Rattle.tape.specs.Tape.{cut_short}
use Rattle.tape.specs.Areas.{piece}
use Rattle.tape.specs.Contents.{kind_of, body_of}

-- of the record's kind, with the bytes of its body
pub record Says (r : Record) (c : Content) : Type 0 where
  pub long : body_length r.kind ≤ length r.body.now
  pub kind : kind_of c ≡ r.kind
  pub body : body_of c ≡ piece r.body.now 0 (body_length r.kind)

-- the body is too short for the record's kind
pub record Lacks (r : Record) (f : TapeFault) : Type 0 where
  pub short : length r.body.now < body_length r.kind
  pub told : f ≡ cut_short r.place

abbrev pub ContentIs : Record → Result Content TapeFault → Type 0
ContentIs r (Ok c) = Says r c
ContentIs r (Err f) = Lacks r f

-- the same beside the record's place
abbrev pub PlacedIs : Record → Result Placed TapeFault → Type 0
PlacedIs r (Ok x) = (x.place ≡ r.place) × Says r x.content
PlacedIs r (Err f) = Lacks r f
