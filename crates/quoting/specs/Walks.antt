-- Ways down from a piece of a division, by its records.
-- Assumes the terms of `Touching` and `Ways`.
use Rattle.std.specs.Prelude.{ℕ}
use Rattle.pieces.specs.Sides.{ends_of, Filled}
use Rattle.pieces.specs.Holding.{piece_at}
use Rattle.pieces.specs.Division.{Division}
use Rattle.piece_rates.specs.Touching.{Touches}
use Rattle.climbing.specs.Ways.{Begins, Parts}
use Rattle.holders.specs.declared.reads.Records.{Records}

-- the records are those of a filled ring of n terminals and of its division
abbrev pub DividedRing : Records → ℕ → Type 0
DividedRing r n = Filled n (ends_of r.sides.now) × Division n (ends_of r.sides.now) r.pieces.now

-- the terminal u touches the piece p
abbrev pub TouchesAt : Records → ℕ → ℕ → ℕ → Type 0
TouchesAt r n p u = Touches n (ends_of r.sides.now) (piece_at r.pieces.now p) u

-- the piece q, at or below p, is where the way down towards u ends
abbrev pub BeginsAt : Records → ℕ → ℕ → ℕ → ℕ → Type 0
BeginsAt r n p u q = Begins n (ends_of r.sides.now) r.pieces.now p u q

-- the piece q, at or below p, is where the way down towards both u and v ends or parts
abbrev pub PartsAt : Records → ℕ → ℕ → ℕ → ℕ → ℕ → Type 0
PartsAt r n p u v q = Parts n (ends_of r.sides.now) r.pieces.now p u v q
