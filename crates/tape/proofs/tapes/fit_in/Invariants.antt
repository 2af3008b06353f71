use Rattle.std.proofs.Common.{◌≡◌, ◌+◌, length, take}
use Rattle.tape.specs.Laws.{tape_bytes}
use Rattle.tape.proofs.tapes.fit_in.Given as goal

abbrev pub invariant-loop-content : goal.invariant-loop-content
invariant-loop-content l = length (tape_bytes (take l.content-index l.contents)) + l.left ≡ l.room
