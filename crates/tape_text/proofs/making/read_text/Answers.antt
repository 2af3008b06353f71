use Rattle.std.proofs.Common.{◌≡◌, ℕ, ◌+◌, true, length, Option, MatchOption, vec_items, sym, ◌∙◌, subst}
use Rattle.std.specs.Iterator.Adapters.{enumerate_source, enumerate_count}
use Rattle.std.specs.Str.Pattern.{FindsChar, IsSplitAtFirstMatch}
use Rattle.std.specs.Str.Iter.{split_text, split_has_more, split_terminator_parts}
use Rattle.tape_text.specs.declared.making.Line.TheVariants.{Remark, Record, Bad}
use Rattle.tape_text.specs.Making.{BadAt}
use Rattle.tape_text.proofs.Spelling.{SoFar, line_off, none_left, past_remark, past_record, all_read, bad_line, line_is}
use Rattle.tape_text.proofs.making.read_text.Goals as goal

pub loop-i-preserved-in-Remark : goal.loop-i-preserved-in-Remark
loop-i-preserved-in-Remark c =
    let text = c.args.text.now in
    let it = c.loop-i.i-iterator in
    let lines = split_terminator_parts (enumerate_source it) in
    let next = split_terminator_parts (enumerate_source c.next.new.self) in
    let line = c.in-Some.line in
    let old = vec_items c.loop-i.contents in
    let (steps, place, count, _) = c.in-Some.ensures.steps in
    let (_, kept, cut, blank) = steps in
    let off = line_off (split_text lines) line (split_has_more next) (split_text next) (subst (λ v. IsSplitAtFirstMatch (FindsChar v) (split_text lines) line.now (split_has_more next) (split_text next)) c.loop-i.invariant.pattern cut) blank in
    record {
      pattern = kept ∙ c.loop-i.invariant.pattern;
      gone = off.1;
      so_far =
          subst (λ n. SoFar text (split_text next) (n + 1) old) (sym count)
          (past_remark text (split_text lines) line.now (split_text next) (enumerate_count it + 1) old c.loop-i.invariant.so_far off.0
          (line_is line.now c.in_ok-read_line.field-0 Remark c.in-Remark.is c.in_ok-read_line.ensures));
    }

pub loop-i-preserved : goal.loop-i-preserved
loop-i-preserved c =
    let text = c.args.text.now in
    let it = c.loop-i.i-iterator in
    let lines = split_terminator_parts (enumerate_source it) in
    let next = split_terminator_parts (enumerate_source c.next.new.self) in
    let line = c.in-Some.line in
    let more = vec_items c.push.new.self in
    let (steps, place, count, _) = c.in-Some.ensures.steps in
    let (_, kept, cut, blank) = steps in
    let off = line_off (split_text lines) line (split_has_more next) (split_text next) (subst (λ v. IsSplitAtFirstMatch (FindsChar v) (split_text lines) line.now (split_has_more next) (split_text next)) c.loop-i.invariant.pattern cut) blank in
    record {
      pattern = kept ∙ c.loop-i.invariant.pattern;
      gone = off.1;
      so_far =
          subst (λ n. SoFar text (split_text next) (n + 1) more) (sym count)
          (past_record text (split_text lines) line.now (split_text next) (enumerate_count it + 1) (vec_items c.loop-i.contents) more c.in-Record.content c.loop-i.invariant.so_far off.0
          (line_is line.now c.in_ok-read_line.field-0 (Record c.in-Record.content) c.in-Record.is c.in_ok-read_line.ensures) c.in_ok-push-in-Record.ensures.items);
    }

pub returns-in-Bad : goal.returns-in-Bad
returns-in-Bad c =
    let text = c.args.text.now in
    let it = c.loop-i.i-iterator in
    let lines = split_terminator_parts (enumerate_source it) in
    let next = split_terminator_parts (enumerate_source c.next.new.self) in
    let line = c.in-Some.line in
    let (steps, place, count, _) = c.in-Some.ensures.steps in
    let (_, kept, cut, blank) = steps in
    let off = line_off (split_text lines) line (split_has_more next) (split_text next) (subst (λ v. IsSplitAtFirstMatch (FindsChar v) (split_text lines) line.now (split_has_more next) (split_text next)) c.loop-i.invariant.pattern cut) blank in
    subst (λ n. BadAt text (n + 1)) (sym place)
    (bad_line text (split_text lines) line.now (split_text next) (enumerate_count it + 1) (vec_items c.loop-i.contents) c.loop-i.invariant.so_far off.0
    (line_is line.now c.in_ok-read_line.field-0 Bad c.in-Bad.is c.in_ok-read_line.ensures))

pub returns : goal.returns
returns c =
    let text = c.args.text.now in
    let it = c.loop-i.i-iterator in
    let lines = split_terminator_parts (enumerate_source it) in
    let rest = split_text lines in
    let end = subst (λ v. split_has_more lines ≡ true → (o : Option (ℕ × ℕ)) × FindsChar v rest o × MatchOption o (length rest ≡ 0) (λ q. q.1 ≡ 0)) c.loop-i.invariant.pattern c.in-None.ensures.steps.0.0 in
    all_read text rest (enumerate_count it + 1) (vec_items c.loop-i.contents) c.loop-i.invariant.so_far
    (none_left rest (split_has_more lines) c.loop-i.invariant.gone end)
