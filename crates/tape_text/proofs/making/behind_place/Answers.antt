use Rattle.std.proofs.Common.{Some, None, refl, inl, inr, arith}
use Rattle.std.proofs.lemmas.Str.Pattern.{split_parts}
use Rattle.tape_text.proofs.making.behind_place.Goals as goal

pub returns-in-Some : goal.returns-in-Some
returns-in-Some c =
    let before = c.in-Some.field-0-0 in
    let behind = c.in-Some.behind in
    let h = split_parts 58 c.args.text.now (Some (before, behind)) c.in-Some.ensures.cases (omega arith) in
    inl (before.now, behind.now, record { first = h.1; whole = h.0 }, c.trim.ensures.value)

pub returns-in-None : goal.returns-in-None
returns-in-None c = inr (split_parts 58 c.args.text.now None c.in-None.ensures.cases (omega arith), refl)
