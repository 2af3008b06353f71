-- The cuts of a division as climbs ask for them.
-- Assumes the terms of `Climbing`; the ends are those of a filled ring.
use Rattle.std.specs.Prelude.{ℕ, ◌+◌, ◌*◌, ◌<◌, List}
use Rattle.records.specs.declared.Piece.{Piece}
use Rattle.pieces.specs.Sides.{Ends, span, Filled}
use Rattle.pieces.specs.Holding.{piece_at}
use Rattle.pieces.specs.Division.{Division, CutInTwo}
use Rattle.piece_rates.specs.Climbing.{CutShape}

-- each cut piece meets the premises of a climb, with the ends of its seam
abbrev pub CutsHaveShape : Type 0
CutsHaveShape =
    (n : ℕ) (e : Ends) (ps : List Piece) → Filled n e → Division n e ps → (p : ℕ) → p + 5 < 2 * n
    → CutInTwo n (span e) p (piece_at ps p) (piece_at ps (piece_at ps p).first) (piece_at ps (piece_at ps p).second)
    → CutShape n e (e.low (piece_at ps p).seam) (e.high (piece_at ps p).seam) (piece_at ps p) (piece_at ps (piece_at ps p).first) (piece_at ps (piece_at ps p).second)
