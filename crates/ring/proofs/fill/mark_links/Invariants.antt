use Rattle.std.proofs.Common.{List, [], take}
use Rattle.ring.specs.declared.Side.{Side}
use Rattle.ring.specs.Areas.{FilledWith}
use Rattle.ring.proofs.fill.mark_links.Given as goal

abbrev pub invariant-loop-link : goal.invariant-loop-link
invariant-loop-link l = (before : List Side) → FilledWith l.n l.links [] before l.initial.sides → FilledWith l.n l.links (take l.link-index l.links) before l.sides
