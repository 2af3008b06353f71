use Rattle.std.proofs.Common.{length, sym, inl, inr, arith}
use Rattle.std.proofs.lemmas.List.{nil_from_length}
use Rattle.std.proofs.lemmas.Str.Pattern.{starts_char}
use Rattle.std.proofs.lemmas.Bool.{eqb-true}
use Rattle.tape_text.specs.Making.{OnLine}
use Rattle.tape_text.proofs.Spelling.{on_line, parsed_some, parsed_none}
use Rattle.tape_text.proofs.making.read_line.Goals as goal
use Rattle.tape_text.proofs.making.read_line.Goals.{After-behind_place, at-returns-in-Some, at-returns-in-None}

pub returns-then-is_empty : goal.returns-then-is_empty
returns-then-is_empty c =
    let t = c.trim-text.result.now in
    (t, c.trim-text.ensures.value, inl (nil_from_length t (eqb-true (length t) 0 (sym c.if-is_empty.ensures))))

pub returns-then-starts_with : goal.returns-then-starts_with
returns-then-starts_with c =
    let t = c.trim-text.result.now in
    let d = starts_char 35 t c.starts_with.result c.starts_with.ensures.cases (omega arith) (omega arith) in
    (t, c.trim-text.ensures.value, inr (d.0 c.if-starts_with.true))

-- behind both tests the line is in use
used : (c : After-behind_place) → OnLine c.args.line.now c.behind_place.result.now
used c =
    let t = c.trim-text.result.now in
    on_line c.args.line.now t c.behind_place.result.now c.is_empty.result c.starts_with.result c.trim-text.ensures.value
    c.if-is_empty.false c.is_empty.ensures c.if-starts_with.false
    (starts_char 35 t c.starts_with.result c.starts_with.ensures.cases (omega arith) (omega arith)) c.behind_place.ensures

pub returns-in-Some : goal.returns-in-Some
returns-in-Some c = (
  c.behind_place.result.now,
  used (at-returns-in-Some c).After-behind_place,
  parsed_some c.behind_place.result.now c.in_ok-content.field-0 c.in-Some.content c.in-Some.is c.in_ok-content.ensures,
)

pub returns-in-None : goal.returns-in-None
returns-in-None c = (
  c.behind_place.result.now,
  used (at-returns-in-None c).After-behind_place,
  parsed_none c.behind_place.result.now c.in_ok-content.field-0 c.in-None.is c.in_ok-content.ensures,
)
