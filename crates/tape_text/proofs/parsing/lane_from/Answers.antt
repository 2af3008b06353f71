use Rattle.std.proofs.Common.{◌≡◌, Some, ap, ◌∙◌, arith, w32, SFits, to_z, of_z, rules}
use Rattle.std.proofs.lemmas.Int.{to_z-of_z}
use Rattle.tape_text.proofs.Fields.{lane_cut, number_of, signed_of, not_both, same_some, same_lane}
use Rattle.tape_text.proofs.parsing.lane_from.Goals as goal

pub returns-in_err-ok : goal.returns-in_err-ok
returns-in_err-ok c = λ l fits is.
    let p = lane_cut c.args.text.now c.cut.result.0.now c.cut.result.1.now c.cut-2.result.0.now c.cut-2.result.1.now c.cut-3.result.0.now c.cut-3.result.1.now c.cut-4.result.0.now c.cut-4.result.1.now c.cut-5.result.0.now c.cut-5.result.1.now
    c.cut.ensures c.cut-2.ensures c.cut-3.ensures c.cut-4.ensures c.cut-5.ensures l fits is in
    let f = fits.ends.from in
    absurd (not_both c.ok.result l.ends.from c.in_err-ok.was (number_of 16 l.ends.from c.cut.result.0.now c.parse.result c.ok.result (omega arith) f p.0 c.parse.ensures.value.0 c.ok.ensures.value))

pub returns-in_err-ok-2 : goal.returns-in_err-ok-2
returns-in_err-ok-2 c = λ l fits is.
    let p = lane_cut c.args.text.now c.cut.result.0.now c.cut.result.1.now c.cut-2.result.0.now c.cut-2.result.1.now c.cut-3.result.0.now c.cut-3.result.1.now c.cut-4.result.0.now c.cut-4.result.1.now c.cut-5.result.0.now c.cut-5.result.1.now
    c.cut.ensures c.cut-2.ensures c.cut-3.ensures c.cut-4.ensures c.cut-5.ensures l fits is in
    let f = fits.ends.to in
    absurd (not_both c.ok-2.result l.ends.to c.in_err-ok-2.was (number_of 16 l.ends.to c.cut-2.result.0.now c.parse-2.result c.ok-2.result (omega arith) f p.1 c.parse-2.ensures.value.0 c.ok-2.ensures.value))

pub returns-in_err-ok-3 : goal.returns-in_err-ok-3
returns-in_err-ok-3 c = λ l fits is.
    let p = lane_cut c.args.text.now c.cut.result.0.now c.cut.result.1.now c.cut-2.result.0.now c.cut-2.result.1.now c.cut-3.result.0.now c.cut-3.result.1.now c.cut-4.result.0.now c.cut-4.result.1.now c.cut-5.result.0.now c.cut-5.result.1.now
    c.cut.ensures c.cut-2.ensures c.cut-3.ensures c.cut-4.ensures c.cut-5.ensures l fits is in
    let f = fits.cents in
    absurd (not_both c.ok-3.result l.cents c.in_err-ok-3.was (signed_of l.cents c.cut-4.result.0.now c.parse-3.result c.ok-3.result f p.2 c.parse-3.ensures.value.0 c.ok-3.ensures.value))

pub returns-in_err-ok-4 : goal.returns-in_err-ok-4
returns-in_err-ok-4 c = λ l fits is.
    let p = lane_cut c.args.text.now c.cut.result.0.now c.cut.result.1.now c.cut-2.result.0.now c.cut-2.result.1.now c.cut-3.result.0.now c.cut-3.result.1.now c.cut-4.result.0.now c.cut-4.result.1.now c.cut-5.result.0.now c.cut-5.result.1.now
    c.cut.ensures c.cut-2.ensures c.cut-3.ensures c.cut-4.ensures c.cut-5.ensures l fits is in
    let f = fits.tonnes in
    absurd (not_both c.ok-4.result l.tonnes c.in_err-ok-4.was (number_of 32 l.tonnes c.cut-5.result.1.now c.parse-4.result c.ok-4.result (omega arith) f p.3 c.parse-4.ensures.value.0 c.ok-4.ensures.value))

pub returns : goal.returns
returns c = λ l fits is.
    let p = lane_cut c.args.text.now c.cut.result.0.now c.cut.result.1.now c.cut-2.result.0.now c.cut-2.result.1.now c.cut-3.result.0.now c.cut-3.result.1.now c.cut-4.result.0.now c.cut-4.result.1.now c.cut-5.result.0.now c.cut-5.result.1.now
    c.cut.ensures c.cut-2.ensures c.cut-3.ensures c.cut-4.ensures c.cut-5.ensures l fits is in
    let f1 = fits.ends.from in
    let e1 : c.in_ok-ok.field-0 ≡ l.ends.from = same_some c.ok.result c.in_ok-ok.field-0 l.ends.from c.in_ok-ok.was (number_of 16 l.ends.from c.cut.result.0.now c.parse.result c.ok.result (omega arith) f1 p.0 c.parse.ensures.value.0 c.ok.ensures.value) in
    let f2 = fits.ends.to in
    let e2 : c.in_ok-ok-2.field-0 ≡ l.ends.to = same_some c.ok-2.result c.in_ok-ok-2.field-0 l.ends.to c.in_ok-ok-2.was (number_of 16 l.ends.to c.cut-2.result.0.now c.parse-2.result c.ok-2.result (omega arith) f2 p.1 c.parse-2.ensures.value.0 c.ok-2.ensures.value) in
    let f3 = fits.cents in
    let e3 : c.in_ok-ok-3.field-0 ≡ l.cents = same_some c.ok-3.result c.in_ok-ok-3.field-0 l.cents c.in_ok-ok-3.was (signed_of l.cents c.cut-4.result.0.now c.parse-3.result c.ok-3.result f3 p.2 c.parse-3.ensures.value.0 c.ok-3.ensures.value) in
    let f4 = fits.tonnes in
    let e4 : c.in_ok-ok-4.field-0 ≡ l.tonnes = same_some c.ok-4.result c.in_ok-ok-4.field-0 l.tonnes c.in_ok-ok-4.was (number_of 32 l.tonnes c.cut-5.result.1.now c.parse-4.result c.ok-4.result (omega arith) f4 p.3 c.parse-4.ensures.value.0 c.ok-4.ensures.value) in
    let fit : SFits w32 c.in_ok-ok-3.field-0 = search rules in
    ap Some (same_lane c.in_ok-ok.field-0 c.in_ok-ok-2.field-0 (to_z w32 (of_z w32 c.in_ok-ok-3.field-0)) c.in_ok-ok-4.field-0 l e1 e2 (to_z-of_z w32 c.in_ok-ok-3.field-0 fit ∙ e3) e4)
