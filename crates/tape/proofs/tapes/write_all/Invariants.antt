use Rattle.std.proofs.Common.{◌≡◌, ◌++◌, length, take, drop}
use Rattle.tape.specs.Laws.{tape_bytes}
use Rattle.tape.proofs.tapes.write_all.Given as goal

abbrev pub invariant-loop-content : goal.invariant-loop-content
invariant-loop-content l =
    (l.at ≡ length (tape_bytes (take l.content-index l.contents)))
    × (l.area ≡ tape_bytes (take l.content-index l.contents) ++ drop l.at l.initial.area)
