use Rattle.std.proofs.Common.{ℕ, ◌≤◌, length}
use Rattle.pieces.specs.Sides.{ends_of}
use Rattle.pieces.proofs.Waiting.{UnderWay}
use Rattle.division.specs.Turns.{Fitting}
use Rattle.division.proofs.loops.cut_pieces.Given as goal

-- on a filled ring the division is under way
abbrev pub invariant-loop-p : goal.invariant-loop-p
invariant-loop-p l =
    (n : ℕ) → Fitting n (ends_of l.sides) l.count l.initial.waiting.items.now → (64 ≤ length l.waiting.items.now) × UnderWay n (ends_of l.sides) l.p l.records l.waiting.items.now l.waiting.len
