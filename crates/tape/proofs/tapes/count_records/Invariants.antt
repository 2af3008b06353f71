use Rattle.std.proofs.Common.{◌≡◌, ◌≤◌, List, length}
use Rattle.tape.specs.Tape.{Part}
use Rattle.tape.proofs.Runs.{Before}
use Rattle.tape.proofs.tapes.count_records.Given as goal

abbrev pub invariant-loop-record : goal.invariant-loop-record
invariant-loop-record l =
    record {
      tape : l.record-iterator.tape.now ≡ l.tape;
      count : l.n ≤ l.record-iterator.at;
      shown : (shown : List Part) × (l.n ≡ length shown) × Before l.tape l.record-iterator.at shown;
    }
