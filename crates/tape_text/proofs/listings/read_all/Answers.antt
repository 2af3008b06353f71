use Rattle.std.proofs.Common.{[], ◌∷◌, map, vec_items, sym, ap, ◌∙◌, subst}
use Rattle.std.proofs.lemmas.List.{map-append}
use Rattle.tape.specs.Laws.{part_of}
use Rattle.tape.proofs.Runs.{Before, one_more, all_before, fault_before, item_none}
use Rattle.tape_text.proofs.Shown.{content_shown, fault_shown}
use Rattle.tape_text.proofs.listings.read_all.Goals as goal

pub loop-record-preserved : goal.loop-record-preserved
loop-record-preserved c =
    let t = c.args.tape.now in
    let it = c.loop-record.record-iterator in
    let q = c.next.new.self.at in
    let x = c.in-Ok.x in
    let old = vec_items c.loop-record.records in
    let s = content_shown t it.tape.now it.at q c.next.result c.loop-record.invariant.tape c.next.ensures.steps.1 c.in-Some.record c.placed.result x c.in-Some.is c.placed.ensures c.in-Ok.is in
    record {
      tape = c.next.ensures.steps.0 ∙ c.loop-record.invariant.tape;
      shown =
          subst (Before t q) (sym (ap (map part_of) c.in_ok-push-in-Ok.ensures.items ∙ map-append part_of old (x ∷ [])))
          (one_more t it.at q (map part_of old) (part_of x) c.loop-record.invariant.shown s);
    }

pub returns-in-Err : goal.returns-in-Err
returns-in-Err c =
    let t = c.args.tape.now in
    let it = c.loop-record.record-iterator in
    let q = c.next.new.self.at in
    fault_before t it.at q (map part_of (vec_items c.loop-record.records)) c.in-Err.fault c.loop-record.invariant.shown
    (fault_shown t it.tape.now it.at q c.next.result c.loop-record.invariant.tape c.next.ensures.steps.1 c.in-Some.record c.placed.result c.in-Err.fault c.in-Some.is c.placed.ensures c.in-Err.is)

pub returns : goal.returns
returns c =
    let t = c.args.tape.now in
    let it = c.loop-record.record-iterator in
    all_before t it.at (map part_of (vec_items c.loop-record.records)) c.loop-record.invariant.shown
    (item_none t it.tape.now it.at c.next.new.self.at c.next.result c.loop-record.invariant.tape c.next.ensures.steps.1 c.in-None.is)
