use Rattle.std.proofs.Common.{◌≡◌, ◌+◌}
use Rattle.std.specs.Str.Iter.{lines_rest}
use Rattle.plan_text.specs.Readers.{reading_of}
use Rattle.plan_text.proofs.Reports.{ToldSoFar}
use Rattle.plan_text.proofs.telling.report.Given as goal

abbrev pub invariant-loop-index : goal.invariant-loop-index
invariant-loop-index l = record {
  can : (goal.iterator-loop-index).can_next l.index-iterator;
  finite : (goal.iterator-loop-index).is_finite l.index-iterator;
  view : l.reader.view ≡ l.fn.view;
  told : ToldSoFar l.fn.view l.fn.text (l.index-iterator.count + 1) (reading_of l.reader) (lines_rest l.index-iterator.iter) l.reader.text;
}
