use Rattle.std.proofs.Common.{◌+◌, ◌*◌, List, Ok}
use Rattle.ring.specs.declared.Area.{Area}
use Rattle.ring.specs.Faults.{Condition, FirstIn}
use Rattle.ring.proofs.checks.check_links.Given as goal

abbrev pub invariant-loop-i : goal.invariant-loop-i
invariant-loop-i l = (areas : List Area) → FirstIn (Condition l.n areas l.links) 3 (3 + 3 * l.i) (Ok tt)
