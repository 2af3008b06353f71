use Rattle.std.proofs.Common.{◌≡◌, ◌+◌, ◌-◌, ◌≤◌, [], ◌∷◌, ◌++◌, length, take, drop, sym, refl, ap, ◌∙◌, subst, inr, arith}
use Rattle.std.proofs.lemmas.List.{length-take-le, take_all}
use Rattle.std.proofs.lemmas.Result.{err_from_is_err_and}
use Rattle.tape.specs.declared.contents.Placed.{Placed}
use Rattle.tape.specs.Contents.{record_bytes}
use Rattle.tape.specs.Reads.{Shown}
use Rattle.tape.specs.Laws.{part_of}
use Rattle.tape.specs.Tapes.{Rewrites}
use Rattle.tape.proofs.Puts.{longer_area}
use Rattle.tape.proofs.Rewriting.{says_part, bytes_long, front_longer}
use Rattle.tape.proofs.Runs.{one_more, all_before, fault_before, item_record, item_fault, item_none}
use Rattle.tape.proofs.tapes.rewrite.Goals as goal

pub returns-in_err-record : goal.returns-in_err-record
returns-in_err-record c =
    let t = c.args.tape.now in
    let before = c.args.area.now in
    let it = c.loop-record.record-iterator in
    let q = c.next.new.self.at in
    let (shown, so_far) = c.loop-record.invariant.shown in
    let f = c.in_err-record.field-0.0 in
    let p = err_from_is_err_and c.from_residual.result c.from_residual.ensures.1 in
    let wrong = item_fault t it.tape.now it.at q c.next.result c.loop-record.invariant.tape c.next.ensures.steps.1 c.in-Some.record f c.in-Some.is c.in_err-record.was in
    subst (λ r. Rewrites t before r c.loop-record.area) (sym p.1)
    (inr (record {
      faulted = record { records = shown; fault = f; means = fault_before t it.at q shown f so_far wrong; told = p.2 };
      area = c.loop-record.invariant.area ∙ ap (λ n. take n t ++ drop n before) (c.loop-record.invariant.count ∙ sym wrong.place ∙ sym (ap (λ g. g.place) p.2));
    }))

pub loop-record-preserved : goal.loop-record-preserved
loop-record-preserved c =
    let t = c.args.tape.now in
    let before = c.args.area.now in
    let it = c.loop-record.record-iterator in
    let q = c.next.new.self.at in
    let at = c.loop-record.at in
    let n = c.in_ok-at.field-0 in
    let (shown, so_far) = c.loop-record.invariant.shown in
    let r = c.in_ok-record.field-0 in
    let x : Placed = record { place = r.place; content = c.in_ok-content.content } in
    let here = item_record t it.tape.now it.at q c.next.result c.loop-record.invariant.tape c.next.ensures.steps.1 c.in-Some.record r c.in-Some.is c.in_ok-record.was in
    let s = subst (λ y. Shown t it.at y q) (says_part t r here.stands x.content c.in_ok-content.ensures) here in
    let st = c.in_ok-at.ensures in
    let w = s.stands.whole in
    let place : x.place ≡ at = s.place ∙ sym c.loop-record.invariant.count in
    let long = bytes_long t x s.stands in
    let next : at + n ≡ q = omega (arith, st.count, s.next) in
    let inside : at ≤ length t = omega arith in
    record {
      tape = c.next.ensures.steps.0 ∙ c.loop-record.invariant.tape;
      count = next;
      area =
          longer_area before c.loop-record.area (take at t) (record_bytes x.content) c.write.new.area at n (length c.loop-record.area - at)
          c.loop-record.invariant.area (sym (length-take-le at t inside)) (omega arith) refl st
          ∙ ap (λ v. v ++ drop (at + n) before) (ap (λ p. take p t ++ record_bytes x.content) (sym place) ∙ front_longer t x s.stands ∙ ap (λ m. take m t) (omega arith));
      shown = (shown ++ part_of x ∷ [], one_more t it.at q shown (part_of x) so_far s);
    }

pub returns : goal.returns
returns c =
    let t = c.args.tape.now in
    let before = c.args.area.now in
    let it = c.loop-record.record-iterator in
    let (shown, so_far) = c.loop-record.invariant.shown in
    let end = item_none t it.tape.now it.at c.next.new.self.at c.next.result c.loop-record.invariant.tape c.next.ensures.steps.1 c.in-None.is in
    let all : c.loop-record.at ≡ length t = c.loop-record.invariant.count ∙ end in
    record {
      records = shown;
      means = all_before t it.at shown so_far end;
      stored =
          record {
            count = all;
            room = omega arith;
            area = c.loop-record.invariant.area ∙ ap (λ v. v ++ drop c.loop-record.at before) (take_all c.loop-record.at t (omega arith));
          };
    }
