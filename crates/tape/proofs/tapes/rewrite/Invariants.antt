use Rattle.std.proofs.Common.{◌≡◌, List, ◌++◌, take, drop}
use Rattle.tape.specs.Tape.{Part}
use Rattle.tape.proofs.Runs.{Before}
use Rattle.tape.proofs.tapes.rewrite.Given as goal

abbrev pub invariant-loop-record : goal.invariant-loop-record
invariant-loop-record l =
    record {
      tape : l.record-iterator.tape.now ≡ l.tape;
      count : l.at ≡ l.record-iterator.at;
      area : l.area ≡ take l.at l.tape ++ drop l.at l.initial.area;
      shown : (shown : List Part) × Before l.tape l.record-iterator.at shown;
    }
