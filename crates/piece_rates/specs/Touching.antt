-- The terminals of a piece: the corners of its triangles.
-- Assumes the terms of `Lanes` and `Triangles`; n is the number of terminals, e the ends of the sides.
use Rattle.std.specs.Prelude.{ℕ, ◌+◌, ◌*◌, ◌<◌}
use Rattle.records.specs.declared.Piece.{Piece}
use Rattle.pieces.specs.Sides.{Ends, span}
use Rattle.pieces.specs.Holding.{Holds}
use Rattle.piece_rates.specs.Triangles.{Corner}

-- The terminal u is a corner of a triangle that the piece holds.
pub record Touches (n : ℕ) (e : Ends) (P : Piece) (u : ℕ) : Type 0 where
  pub triangle : ℕ
  pub in_range : triangle + 3 < 2 * n
  pub held_there : Holds (span e) P triangle
  pub corner : Corner (e.low triangle) (e.high (triangle + 1)) (e.high triangle) u
