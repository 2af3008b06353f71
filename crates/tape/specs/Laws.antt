-- The laws of tapes: each has one meaning, what is written reads back, and what is read writes back.
-- Assumes nothing but what each law says.
use Rattle.std.specs.Prelude.{◌≡◌, ℕ, ◌+◌, ◌^◌, ◌<◌, List, [], ◌∷◌, map, length, FitsSigned}
use Rattle.std.specs.Int.{w32}
use Rattle.std.specs.List.{flat_map}
use Rattle.tape.specs.declared.contents.Ends.{Ends}
use Rattle.tape.specs.declared.contents.LaneRate.{LaneRate}
use Rattle.tape.specs.declared.contents.HeadFields.{HeadFields}
use Rattle.tape.specs.declared.contents.Content.{Content}
use Rattle.tape.specs.declared.contents.Content.TheVariants.{Head, Link, PlanEnd, Post, Shut, Try, Keep, Withdraw, Quote, Route}
use Rattle.tape.specs.declared.contents.Placed.{Placed}
use Rattle.tape.specs.Contents.{kind_of, body_of, record_bytes}
use Rattle.tape.specs.Tape.{Part, Ending, regular, Means}

-- each field fits its width
pub record EndsFit (e : Ends) : Type 0 where
  pub from : e.from < 2 ^ 16
  pub to : e.to < 2 ^ 16

pub record LaneFits (l : LaneRate) : Type 0 where
  pub ends : EndsFit l.ends
  pub cents : FitsSigned w32 l.cents
  pub tonnes : l.tonnes < 2 ^ 32

pub record HeadFits (h : HeadFields) : Type 0 where
  pub kind : h.rate_kind < 2 ^ 8
  pub book : h.book < 2 ^ 32
  pub terminals : h.terminals < 2 ^ 16
  pub meter : h.meter < 2 ^ 32

abbrev pub Fits : Content → Type 0
Fits (Head h) = HeadFits h
Fits (Link e) = EndsFit e
Fits PlanEnd = Unit {0}
Fits (Post l) = LaneFits l
Fits (Shut e) = EndsFit e
Fits (Try l) = LaneFits l
Fits Keep = Unit {0}
Fits Withdraw = Unit {0}
Fits (Quote e) = EndsFit e
Fits (Route e) = EndsFit e

abbrev pub AllFit : List Content → Type 0
AllFit [] = Unit {0}
AllFit (c ∷ cs) = Fits c × AllFit cs

-- the part of a tape that a content is at its place
abbrev pub part_of : Placed → Part
part_of x = record { kind = kind_of x.content; place = x.place; body = body_of x.content }

-- contents one behind another, from a place on
abbrev pub placed : ℕ → List Content → List Placed
placed p [] = []
placed p (c ∷ cs) = record { place = p; content = c } ∷ placed (p + length (record_bytes c)) cs

abbrev pub content_of : Placed → Content
content_of x = x.content

-- the bytes of records one behind another
abbrev pub tape_bytes : List Content → List ℕ
tape_bytes cs = flat_map record_bytes cs

-- Any bytes have a meaning, and only one.
pub record Meaning (t : List ℕ) : Type 0 where
  pub records : List Part
  pub ending : Ending
  pub means : Means t records ending
  pub alone : (rs : List Part) (e : Ending) → Means t rs e → (rs ≡ records) × (e ≡ ending)

abbrev pub OneMeaning : Type 0
OneMeaning = (t : List ℕ) → Meaning t

-- What was written for a list of contents reads back as that list, each at its place, and nothing else does.
pub record ReadsBack (cs : List Content) : Type 0 where
  pub means : Means (tape_bytes cs) (map part_of (placed 0 cs)) regular
  pub alone : (xs : List Placed) (e : Ending) → AllFit (map content_of xs) → Means (tape_bytes cs) (map part_of xs) e → xs ≡ placed 0 cs

abbrev pub EveryListReadsBack : Type 0
EveryListReadsBack = (cs : List Content) → AllFit cs → ReadsBack cs

-- The contents of a regular tape, written one behind another, are its bytes again.
abbrev pub WritesBack : Type 0
WritesBack = (t : List ℕ) (xs : List Placed) → Means t (map part_of xs) regular → tape_bytes (map content_of xs) ≡ t
