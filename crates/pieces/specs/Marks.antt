-- How the sides are told their leaf pieces: each uncut piece marks its triangle's base and those of its other sides that have length 1.
-- Assumes nothing: every function has a value at any records.
use Rattle.std.specs.Prelude.{◌≡◌, ℕ, zero, suc, cond, List, map, ◌==◌, slice_index_or, slice_set}
use Rattle.ring.specs.declared.Side.{Side}
use Rattle.records.specs.declared.Piece.{Piece}
use Rattle.pieces.specs.Sides.{no_side, lengths}
use Rattle.pieces.specs.Cuts.{left, right}
use Rattle.pieces.specs.Holding.{piece_at}

abbrev pub with_leaf : Side → ℕ → Side
with_leaf s q = record { low = s.low; high = s.high; link = s.link; leaf = q }

abbrev pub mark_one : List Side → ℕ → ℕ → List Side
mark_one ss i q = slice_set ss i (with_leaf (slice_index_or ss i no_side) q)

-- a side of length 1
abbrev pub mark_unit : List Side → ℕ → ℕ → List Side
mark_unit ss i q = cond (lengths ss i == 1) (mark_one ss i q) ss

-- the sides whose lanes belong to the triangle with the base b
abbrev pub mark_triangle : List Side → ℕ → ℕ → List Side
mark_triangle ss b q = mark_unit (mark_unit (mark_one ss b q) (left b) q) (right (lengths ss) b) q

abbrev pub mark_piece : List Side → ℕ → Piece → List Side
mark_piece ss q P = cond (P.first == 0) (mark_triangle ss P.top q) ss

-- the pieces below m, in order
unfoldable pub mark_all : List Side → List Piece → ℕ → List Side
mark_all ss ps zero = ss
mark_all ss ps (suc m) = mark_piece (mark_all ss ps m) m (piece_at ps m)

-- a side without its leaf
abbrev pub bare : Side → Side
bare s = with_leaf s 0

-- but for their leaves the sides are the same
abbrev pub SameSides : List Side → List Side → Type 0
SameSides ss ss' = map bare ss' ≡ map bare ss
