use Rattle.std.proofs.Common.{◌≡◌, take, string_bytes}
use Rattle.tape_text.specs.Listings.{lines_of}
use Rattle.tape_text.proofs.listings.lines_of.Given as goal

abbrev pub invariant-loop-x : goal.invariant-loop-x
invariant-loop-x l = string_bytes l.out ≡ lines_of (take l.x-index l.records)
