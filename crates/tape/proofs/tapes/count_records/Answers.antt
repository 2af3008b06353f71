use Rattle.std.proofs.Common.{◌+◌, [], ◌∷◌, ◌++◌, sym, ap, ◌∙◌, subst, arith}
use Rattle.std.proofs.lemmas.List.{length_push}
use Rattle.std.proofs.lemmas.Result.{err_from_is_err_and}
use Rattle.tape.specs.Reads.{part}
use Rattle.tape.specs.Tapes.{Counts}
use Rattle.tape.proofs.Runs.{one_more, all_before, fault_before, item_record, item_fault, item_none}
use Rattle.tape.proofs.tapes.count_records.Goals as goal

pub returns-in_err-record : goal.returns-in_err-record
returns-in_err-record c =
    let t = c.args.tape.now in
    let it = c.loop-record.record-iterator in
    let q = c.next.new.self.at in
    let (shown, _, before) = c.loop-record.invariant.shown in
    let f = c.in_err-record.field-0.0 in
    let p = err_from_is_err_and c.from_residual.result c.from_residual.ensures.1 in
    let wrong = item_fault t it.tape.now it.at q c.next.result c.loop-record.invariant.tape c.next.ensures.steps.1 c.in-Some.record f c.in-Some.is c.in_err-record.was in
    subst (Counts t) (sym p.1) (record { records = shown; fault = f; means = fault_before t it.at q shown f before wrong; told = p.2 })

pub loop-record-preserved : goal.loop-record-preserved
loop-record-preserved c =
    let t = c.args.tape.now in
    let it = c.loop-record.record-iterator in
    let q = c.next.new.self.at in
    let r = c.in_ok-record.field-0 in
    let (shown, count, before) = c.loop-record.invariant.shown in
    let s = item_record t it.tape.now it.at q c.next.result c.loop-record.invariant.tape c.next.ensures.steps.1 c.in-Some.record r c.in-Some.is c.in_ok-record.was in
    record {
      tape = c.next.ensures.steps.0 ∙ c.loop-record.invariant.tape;
      count = let here = s.place in let next = s.next in let n = c.loop-record.invariant.count in omega arith;
      shown = (shown ++ part r ∷ [], ap (λ m. m + 1) count ∙ sym (length_push shown (part r)), one_more t it.at q shown (part r) before s);
    }

pub returns : goal.returns
returns c =
    let t = c.args.tape.now in
    let it = c.loop-record.record-iterator in
    let (shown, count, before) = c.loop-record.invariant.shown in
    let end = item_none t it.tape.now it.at c.next.new.self.at c.next.result c.loop-record.invariant.tape c.next.ensures.steps.1 c.in-None.is in
    record { records = shown; means = all_before t it.at shown before end; count = count }
