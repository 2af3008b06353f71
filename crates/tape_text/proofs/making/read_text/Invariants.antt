use Rattle.std.proofs.Common.{◌≡◌, ◌+◌, false, length, vec_items}
use Rattle.std.specs.Iterator.Adapters.{enumerate_source, enumerate_count}
use Rattle.std.specs.Str.Iter.{split_text, split_has_more, split_terminator_parts, split_terminator_pattern}
use Rattle.tape_text.proofs.Spelling.{SoFar}
use Rattle.tape_text.proofs.making.read_text.Given as goal

abbrev pub invariant-loop-i : goal.invariant-loop-i
invariant-loop-i l =
    let lines = split_terminator_parts (enumerate_source l.i-iterator) in
    record {
      pattern : split_terminator_pattern (enumerate_source l.i-iterator) ≡ 10;
      gone : split_has_more lines ≡ false → length (split_text lines) ≡ 0;
      so_far : SoFar l.text (split_text lines) (enumerate_count l.i-iterator + 1) (vec_items l.contents);
    }
