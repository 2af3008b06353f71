use Rattle.std.proofs.Common.{◌≡◌, ◌+◌, ap, arith, ◌∙◌, rules, subst}
use Rattle.std.specs.Iterator.Adapters.{enumerate_count, enumerate_source}
use Rattle.std.specs.Str.Iter.{lines_rest}
use Rattle.plan_text.specs.Texts.{GrownByA}
use Rattle.plan_text.specs.Reports.{LineTold, ReadingEnds}
use Rattle.plan_text.specs.Readers.{reading_of}
use Rattle.plan_text.proofs.Reports.{ToldSoFar, told_at_first, line_told, end_told}
use Rattle.plan_text.proofs.telling.report.Goals as goal

pub loop-index-init : goal.loop-index-init
loop-index-init c =
    let it = c.into_iter-index-iterator.result in
    let given = c.into_iter-index-iterator.ensures.into_iter_gives in
    let first : it.count + 1 ≡ 1 = omega (arith, ap enumerate_count given, c.enumerate-index-items.ensures.count) in
    let whole : lines_rest it.iter ≡ c.args.text.now = ap lines_rest (ap enumerate_source given ∙ c.enumerate-index-items.ensures.source) ∙ c.lines.ensures.rest in
    record {
      can = search rules;
      finite = search rules;
      view = search rules;
      told = told_at_first c.args.view c.args.text.now (it.count + 1) (reading_of c.new-reader.result) (lines_rest it.iter) c.new-reader.result.text
          first c.new-reader.ensures.nothing whole c.new-reader.ensures.empty;
    }

pub loop-index-preserved : goal.loop-index-preserved
loop-index-preserved c =
    let before = c.loop-index.reader in
    let after = c.read_line.new.self in
    let it = c.loop-index.index-iterator in
    let line = c.in-Some.line.now in
    let steps = c.in-Some.ensures.steps in
    let index : c.in-Some.index ≡ it.count = search rules in
    let next : it.count + 1 + 1 ≡ c.next.new.self.count + 1 = search rules in
    let told = subst (λ k. GrownByA (LineTold before.view (k + 1) line (reading_of before) (reading_of after)) before.text after.text) index c.in_ok-read_line.ensures.told in
    record {
      can = search rules;
      finite = search rules;
      view = search rules;
      told = subst (λ k. ToldSoFar c.args.view c.args.text.now k (reading_of after) (lines_rest c.next.new.self.iter) after.text) next
          (line_told c.args.view c.args.text.now (it.count + 1) (reading_of before) (reading_of after) (lines_rest it.iter) line (lines_rest c.next.new.self.iter)
          before.text after.text steps.0.0.0 steps.0.0.2
          (subst (λ view. GrownByA (LineTold view (it.count + 1) line (reading_of before) (reading_of after)) before.text after.text) c.loop-index.invariant.view told)
          c.loop-index.invariant.told);
    }

pub returns : goal.returns
returns c =
    let before = c.loop-index.reader in
    let after = c.end_plan.new.self in
    end_told c.args.view c.args.text.now (c.loop-index.index-iterator.count + 1) (reading_of before) (lines_rest c.loop-index.index-iterator.iter)
    before.text after.text c.in-None.ensures.steps.0.0.0
    (subst (λ view. GrownByA (ReadingEnds view (reading_of before)) before.text after.text) c.loop-index.invariant.view c.in_ok-end_plan.ensures.told)
    c.loop-index.invariant.told
