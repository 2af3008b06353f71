use Rattle.std.proofs.Common.{ℕ, ◌+◌, ◌*◌, ◌<◌}
use Rattle.pieces.specs.Sides.{ends_of}
use Rattle.quoting.specs.Walks.{DividedRing, TouchesAt}
use Rattle.quoting.proofs.Turns.{Descends}
use Rattle.quoting.proofs.walks.parting_below.Given as goal

abbrev pub invariant-loop : goal.invariant-loop
invariant-loop l =
    (n : ℕ) → DividedRing l.records n → l.p + 5 < 2 * n → TouchesAt l.records n l.p l.u → TouchesAt l.records n l.p l.v
    → Descends n (ends_of l.records.sides.now) l.records.pieces.now l.p l.u l.q l.counter × Descends n (ends_of l.records.sides.now) l.records.pieces.now l.p l.v l.q l.counter
