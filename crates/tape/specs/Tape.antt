-- The meaning of a tape: its records with their places, then a regular end or a fault.
-- Assumes nothing of the bytes; a tape may have any length.
use Rattle.std.specs.Prelude.{◌≡◌, ℕ, ◌+◌, ◌<◌, ◌≤◌, List, [], ◌∷◌, length, take, drop, slice_index, slice_index_or}
use Rattle.tape.specs.declared.kinds.Kind.{Kind}
use Rattle.tape.specs.declared.faults.TapeFault.{TapeFault}
use Rattle.tape.specs.declared.faults.Reason.{Reason}
use Rattle.tape.specs.declared.faults.Reason.TheVariants.{UnknownKind, CutShort}
use Rattle.tape.specs.Kinds.{kind_byte, body_length, Unknown}

-- a part of a tape: a record's kind, its place (the number of bytes before it) and the bytes of its body
pub record Part : Type 0 where
  pub kind : Kind
  pub place : ℕ
  pub body : List ℕ

-- the place right behind a record
abbrev pub behind : Part → ℕ
behind x = x.place + 1 + body_length x.kind

-- the record stands whole in the tape, at its place
pub record Stands (t : List ℕ) (x : Part) : Type 0 where
  pub byte : slice_index_or t x.place 0 ≡ kind_byte x.kind
  pub whole : behind x ≤ length t
  pub bytes : x.body ≡ take (body_length x.kind) (drop (x.place + 1) t)

-- the tape goes on at the place, with a byte that no kind has
pub record UnknownAt (t : List ℕ) (p : ℕ) : Type 0 where
  pub inside : p < length t
  pub unknown : Unknown (slice_index t p)

-- the tape goes on at the place, with a record whose body is not all there
pub record CutAt (t : List ℕ) (p : ℕ) : Type 0 where
  pub inside : p < length t
  pub kind : Kind
  pub byte : slice_index_or t p 0 ≡ kind_byte kind
  pub missing : length t < p + 1 + body_length kind

-- how a tape ends
pub data Ending : Type 0 where
  regular : Ending
  faulty : TapeFault → Ending

-- the fault of a record at the place whose body is not all there
abbrev pub cut_short : ℕ → TapeFault
cut_short p = record { reason = CutShort; place = p }

abbrev pub fault : Reason → ℕ → Ending
fault why p = faulty (record { reason = why; place = p })

-- From a place on, the tape has these records, each right behind the one before, and then this ending.
pub data From (t : List ℕ) : ℕ → List Part → Ending → Type 0 where
  at_end : (p : ℕ) → p ≡ length t → From t p [] regular
  at_unknown : (p : ℕ) → UnknownAt t p → From t p [] (fault UnknownKind p)
  at_cut : (p : ℕ) → CutAt t p → From t p [] (fault CutShort p)
  at_record : (p : ℕ) (x : Part) (rest : List Part) (e : Ending) → x.place ≡ p → Stands t x → From t (behind x) rest e → From t p (x ∷ rest) e

-- the records and the ending of a tape
abbrev pub Means : List ℕ → List Part → Ending → Type 0
Means t = From t 0
