use Rattle.std.proofs.Common.{◌≡◌, take, vec_items}
use Rattle.tape.specs.Laws.{tape_bytes}
use Rattle.tape_text.proofs.making.bytes_of.Given as goal

abbrev pub invariant-loop-content : goal.invariant-loop-content
invariant-loop-content l = vec_items l.tape ≡ tape_bytes (take l.content-index l.contents)
