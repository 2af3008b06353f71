use Rattle.std.proofs.Common.{◌≡◌, drop}
use Rattle.triangulation.specs.Trees.{side_count}
use Rattle.ring.proofs.Filling.{Passed}
use Rattle.ring.proofs.fill.write_sides.Given as goal

abbrev pub invariant-loop-i : goal.invariant-loop-i
invariant-loop-i l =
    Passed l.n l.links l.i l.sides
    × (drop (side_count l.n) l.sides ≡ drop (side_count l.n) l.initial.sides)
