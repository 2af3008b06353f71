-- The text of a record: the name of its kind, then its fields in decimal, cents with their sign.
-- Assumes nothing.
use Rattle.std.specs.Prelude.{ℕ, List, ◌++◌, codes, decimal}
use Rattle.std.specs.Fmt.{signed_decimal}
use Rattle.tape.specs.declared.kinds.Kind.{Kind}
use Rattle.tape.specs.declared.contents.Ends.{Ends}
use Rattle.tape.specs.declared.contents.LaneRate.{LaneRate}
use Rattle.tape.specs.declared.contents.HeadFields.{HeadFields}
use Rattle.tape.specs.declared.contents.Content.{Content}
use Rattle.tape.specs.declared.contents.Content.TheVariants.{Head, Link, PlanEnd, Post, Shut, Try, Keep, Withdraw, Quote, Route}
use Rattle.tape.specs.declared.contents.Placed.{Placed}
use Rattle.tape.specs.Kinds.{kind_name}

-- the fields of a body, each that is no terminal behind its name
abbrev pub ends_words : Ends → List ℕ
ends_words e = decimal e.from ++ (codes " " ++ decimal e.to)

abbrev pub lane_words : LaneRate → List ℕ
lane_words l =
    decimal l.ends.from ++ (codes " " ++ (decimal l.ends.to
    ++ (codes " cents " ++ (signed_decimal l.cents ++ (codes " tonnes " ++ decimal l.tonnes)))))

abbrev pub head_words : HeadFields → List ℕ
head_words h =
    codes "rates " ++ (decimal h.rate_kind ++ (codes " book " ++ (decimal h.book
    ++ (codes " terminals " ++ (decimal h.terminals ++ (codes " meter " ++ decimal h.meter))))))

-- a name and what follows it
abbrev pub named : List ℕ → List ℕ → List ℕ
named name words = name ++ (codes " " ++ words)

abbrev pub text_of : Content → List ℕ
text_of (Head h) = named (kind_name Kind.Head) (head_words h)
text_of (Link e) = named (kind_name Kind.Link) (ends_words e)
text_of PlanEnd = kind_name Kind.PlanEnd
text_of (Post l) = named (kind_name Kind.Post) (lane_words l)
text_of (Shut e) = named (kind_name Kind.Shut) (ends_words e)
text_of (Try l) = named (kind_name Kind.Try) (lane_words l)
text_of Keep = kind_name Kind.Keep
text_of Withdraw = kind_name Kind.Withdraw
text_of (Quote e) = named (kind_name Kind.Quote) (ends_words e)
text_of (Route e) = named (kind_name Kind.Route) (ends_words e)

-- a line of a listing: the place before the text
abbrev pub line_of : Placed → List ℕ
line_of x = decimal x.place ++ (codes ": " ++ text_of x.content)
