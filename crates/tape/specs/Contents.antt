-- What a record says, and the bytes that say it: numbers are big-endian.
-- Assumes that each field fits its width (a terminal 16 bits, the others 32, a rate kind 8), as the code's types have it.
use Rattle.std.specs.Prelude.{ℕ, ◌-◌, ◌/◌, ◌%◌, List, [], ◌∷◌, ◌++◌, ℤ, pos, negsuc}
use Rattle.tape.specs.declared.kinds.Kind.{Kind}
use Rattle.tape.specs.declared.contents.Ends.{Ends}
use Rattle.tape.specs.declared.contents.LaneRate.{LaneRate}
use Rattle.tape.specs.declared.contents.HeadFields.{HeadFields}
use Rattle.tape.specs.declared.contents.Content.{Content}
use Rattle.tape.specs.declared.contents.Content.TheVariants.{Head, Link, PlanEnd, Post, Shut, Try, Keep, Withdraw, Quote, Route}
use Rattle.tape.specs.Kinds.{kind_byte}

-- a number below 2^16 as two bytes, the greater first
abbrev pub two : ℕ → List ℕ
two n = n / 256 % 256 ∷ n % 256 ∷ []

-- a number below 2^32 as four bytes, the greatest first
abbrev pub four : ℕ → List ℕ
four n = n / 16777216 % 256 ∷ n / 65536 % 256 ∷ n / 256 % 256 ∷ n % 256 ∷ []

-- the 32 bits of a signed number: below 0 it stands as itself plus 2^32
abbrev pub bits : ℤ → ℕ
bits (pos n) = n
bits (negsuc n) = 4294967295 - n

-- two terminals
abbrev pub ends_bytes : Ends → List ℕ
ends_bytes e = two e.from ++ two e.to

-- a lane's terminals, then its rate: signed cents, unsigned tonnes
abbrev pub lane_bytes : LaneRate → List ℕ
lane_bytes l = ends_bytes l.ends ++ four (bits l.cents) ++ four l.tonnes

-- the kind of rate, the book's number, the number of terminals, the start of the meter
abbrev pub head_bytes : HeadFields → List ℕ
head_bytes h = h.rate_kind ∷ (four h.book ++ two h.terminals ++ four h.meter)

abbrev pub kind_of : Content → Kind
kind_of (Head h) = Kind.Head
kind_of (Link e) = Kind.Link
kind_of PlanEnd = Kind.PlanEnd
kind_of (Post l) = Kind.Post
kind_of (Shut e) = Kind.Shut
kind_of (Try l) = Kind.Try
kind_of Keep = Kind.Keep
kind_of Withdraw = Kind.Withdraw
kind_of (Quote e) = Kind.Quote
kind_of (Route e) = Kind.Route

abbrev pub body_of : Content → List ℕ
body_of (Head h) = head_bytes h
body_of (Link e) = ends_bytes e
body_of PlanEnd = []
body_of (Post l) = lane_bytes l
body_of (Shut e) = ends_bytes e
body_of (Try l) = lane_bytes l
body_of Keep = []
body_of Withdraw = []
body_of (Quote e) = ends_bytes e
body_of (Route e) = ends_bytes e

-- a whole record: the byte of its kind, then its body
abbrev pub record_bytes : Content → List ℕ
record_bytes c = kind_byte (kind_of c) ∷ body_of c
