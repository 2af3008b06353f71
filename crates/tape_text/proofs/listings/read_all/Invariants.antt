use Rattle.std.proofs.Common.{◌≡◌, map, vec_items}
use Rattle.tape.specs.Laws.{part_of}
use Rattle.tape.proofs.Runs.{Before}
use Rattle.tape_text.proofs.listings.read_all.Given as goal

abbrev pub invariant-loop-record : goal.invariant-loop-record
invariant-loop-record l =
    record {
      tape : l.record-iterator.tape.now ≡ l.tape;
      shown : Before l.tape l.record-iterator.at (map part_of (vec_items l.records));
    }
