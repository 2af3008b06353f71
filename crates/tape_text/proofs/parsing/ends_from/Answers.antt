use Rattle.std.proofs.Common.{◌≡◌, Some, ap, arith}
use Rattle.tape_text.proofs.Fields.{ends_cut, number_of, not_both, same_some, same_ends}
use Rattle.tape_text.proofs.parsing.ends_from.Goals as goal

pub returns-in_err-ok : goal.returns-in_err-ok
returns-in_err-ok c = λ e fits is.
    let p = ends_cut c.args.text.now c.cut.result.0.now c.cut.result.1.now
    c.cut.ensures e fits is in
    let f = fits.from in
    absurd (not_both c.ok.result e.from c.in_err-ok.was (number_of 16 e.from c.cut.result.0.now c.parse.result c.ok.result (omega arith) f p.0 c.parse.ensures.value.0 c.ok.ensures.value))

pub returns-in_err-ok-2 : goal.returns-in_err-ok-2
returns-in_err-ok-2 c = λ e fits is.
    let p = ends_cut c.args.text.now c.cut.result.0.now c.cut.result.1.now
    c.cut.ensures e fits is in
    let f = fits.to in
    absurd (not_both c.ok-2.result e.to c.in_err-ok-2.was (number_of 16 e.to c.cut.result.1.now c.parse-2.result c.ok-2.result (omega arith) f p.1 c.parse-2.ensures.value.0 c.ok-2.ensures.value))

pub returns : goal.returns
returns c = λ e fits is.
    let p = ends_cut c.args.text.now c.cut.result.0.now c.cut.result.1.now
    c.cut.ensures e fits is in
    let f1 = fits.from in
    let e1 : c.in_ok-ok.field-0 ≡ e.from = same_some c.ok.result c.in_ok-ok.field-0 e.from c.in_ok-ok.was (number_of 16 e.from c.cut.result.0.now c.parse.result c.ok.result (omega arith) f1 p.0 c.parse.ensures.value.0 c.ok.ensures.value) in
    let f2 = fits.to in
    let e2 : c.in_ok-ok-2.field-0 ≡ e.to = same_some c.ok-2.result c.in_ok-ok-2.field-0 e.to c.in_ok-ok-2.was (number_of 16 e.to c.cut.result.1.now c.parse-2.result c.ok-2.result (omega arith) f2 p.1 c.parse-2.ensures.value.0 c.ok-2.ensures.value) in
    ap Some (same_ends c.in_ok-ok.field-0 c.in_ok-ok-2.field-0 e e1 e2)
