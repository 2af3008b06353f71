use Rattle.std.proofs.Common.{◌≡◌, Some, ap, arith}
use Rattle.tape_text.proofs.Fields.{head_cut, number_of, not_both, same_some, same_head}
use Rattle.tape_text.proofs.parsing.head_from.Goals as goal

pub returns-in_err-ok : goal.returns-in_err-ok
returns-in_err-ok c = λ h fits is.
    let p = head_cut c.args.text.now c.cut.result.0.now c.cut.result.1.now c.cut-2.result.0.now c.cut-2.result.1.now c.cut-3.result.0.now c.cut-3.result.1.now c.cut-4.result.0.now c.cut-4.result.1.now c.cut-5.result.0.now c.cut-5.result.1.now c.cut-6.result.0.now c.cut-6.result.1.now c.cut-7.result.0.now c.cut-7.result.1.now
    c.cut.ensures c.cut-2.ensures c.cut-3.ensures c.cut-4.ensures c.cut-5.ensures c.cut-6.ensures c.cut-7.ensures h fits is in
    let f = fits.kind in
    absurd (not_both c.ok.result h.rate_kind c.in_err-ok.was (number_of 8 h.rate_kind c.cut-2.result.0.now c.parse.result c.ok.result (omega arith) f p.0 c.parse.ensures.value.0 c.ok.ensures.value))

pub returns-in_err-ok-2 : goal.returns-in_err-ok-2
returns-in_err-ok-2 c = λ h fits is.
    let p = head_cut c.args.text.now c.cut.result.0.now c.cut.result.1.now c.cut-2.result.0.now c.cut-2.result.1.now c.cut-3.result.0.now c.cut-3.result.1.now c.cut-4.result.0.now c.cut-4.result.1.now c.cut-5.result.0.now c.cut-5.result.1.now c.cut-6.result.0.now c.cut-6.result.1.now c.cut-7.result.0.now c.cut-7.result.1.now
    c.cut.ensures c.cut-2.ensures c.cut-3.ensures c.cut-4.ensures c.cut-5.ensures c.cut-6.ensures c.cut-7.ensures h fits is in
    let f = fits.book in
    absurd (not_both c.ok-2.result h.book c.in_err-ok-2.was (number_of 32 h.book c.cut-4.result.0.now c.parse-2.result c.ok-2.result (omega arith) f p.1 c.parse-2.ensures.value.0 c.ok-2.ensures.value))

pub returns-in_err-ok-3 : goal.returns-in_err-ok-3
returns-in_err-ok-3 c = λ h fits is.
    let p = head_cut c.args.text.now c.cut.result.0.now c.cut.result.1.now c.cut-2.result.0.now c.cut-2.result.1.now c.cut-3.result.0.now c.cut-3.result.1.now c.cut-4.result.0.now c.cut-4.result.1.now c.cut-5.result.0.now c.cut-5.result.1.now c.cut-6.result.0.now c.cut-6.result.1.now c.cut-7.result.0.now c.cut-7.result.1.now
    c.cut.ensures c.cut-2.ensures c.cut-3.ensures c.cut-4.ensures c.cut-5.ensures c.cut-6.ensures c.cut-7.ensures h fits is in
    let f = fits.terminals in
    absurd (not_both c.ok-3.result h.terminals c.in_err-ok-3.was (number_of 16 h.terminals c.cut-6.result.0.now c.parse-3.result c.ok-3.result (omega arith) f p.2 c.parse-3.ensures.value.0 c.ok-3.ensures.value))

pub returns-in_err-ok-4 : goal.returns-in_err-ok-4
returns-in_err-ok-4 c = λ h fits is.
    let p = head_cut c.args.text.now c.cut.result.0.now c.cut.result.1.now c.cut-2.result.0.now c.cut-2.result.1.now c.cut-3.result.0.now c.cut-3.result.1.now c.cut-4.result.0.now c.cut-4.result.1.now c.cut-5.result.0.now c.cut-5.result.1.now c.cut-6.result.0.now c.cut-6.result.1.now c.cut-7.result.0.now c.cut-7.result.1.now
    c.cut.ensures c.cut-2.ensures c.cut-3.ensures c.cut-4.ensures c.cut-5.ensures c.cut-6.ensures c.cut-7.ensures h fits is in
    let f = fits.meter in
    absurd (not_both c.ok-4.result h.meter c.in_err-ok-4.was (number_of 32 h.meter c.cut-7.result.1.now c.parse-4.result c.ok-4.result (omega arith) f p.3 c.parse-4.ensures.value.0 c.ok-4.ensures.value))

pub returns : goal.returns
returns c = λ h fits is.
    let p = head_cut c.args.text.now c.cut.result.0.now c.cut.result.1.now c.cut-2.result.0.now c.cut-2.result.1.now c.cut-3.result.0.now c.cut-3.result.1.now c.cut-4.result.0.now c.cut-4.result.1.now c.cut-5.result.0.now c.cut-5.result.1.now c.cut-6.result.0.now c.cut-6.result.1.now c.cut-7.result.0.now c.cut-7.result.1.now
    c.cut.ensures c.cut-2.ensures c.cut-3.ensures c.cut-4.ensures c.cut-5.ensures c.cut-6.ensures c.cut-7.ensures h fits is in
    let f1 = fits.kind in
    let e1 : c.in_ok-ok.field-0 ≡ h.rate_kind = same_some c.ok.result c.in_ok-ok.field-0 h.rate_kind c.in_ok-ok.was (number_of 8 h.rate_kind c.cut-2.result.0.now c.parse.result c.ok.result (omega arith) f1 p.0 c.parse.ensures.value.0 c.ok.ensures.value) in
    let f2 = fits.book in
    let e2 : c.in_ok-ok-2.field-0 ≡ h.book = same_some c.ok-2.result c.in_ok-ok-2.field-0 h.book c.in_ok-ok-2.was (number_of 32 h.book c.cut-4.result.0.now c.parse-2.result c.ok-2.result (omega arith) f2 p.1 c.parse-2.ensures.value.0 c.ok-2.ensures.value) in
    let f3 = fits.terminals in
    let e3 : c.in_ok-ok-3.field-0 ≡ h.terminals = same_some c.ok-3.result c.in_ok-ok-3.field-0 h.terminals c.in_ok-ok-3.was (number_of 16 h.terminals c.cut-6.result.0.now c.parse-3.result c.ok-3.result (omega arith) f3 p.2 c.parse-3.ensures.value.0 c.ok-3.ensures.value) in
    let f4 = fits.meter in
    let e4 : c.in_ok-ok-4.field-0 ≡ h.meter = same_some c.ok-4.result c.in_ok-ok-4.field-0 h.meter c.in_ok-ok-4.was (number_of 32 h.meter c.cut-7.result.1.now c.parse-4.result c.ok-4.result (omega arith) f4 p.3 c.parse-4.ensures.value.0 c.ok-4.ensures.value) in
    ap Some (same_head c.in_ok-ok.field-0 c.in_ok-ok-2.field-0 c.in_ok-ok-3.field-0 c.in_ok-ok-4.field-0 h e1 e2 e3 e4)
