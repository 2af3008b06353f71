-- The seam on the ring: where the lanes of the two parts of a cut lie, and what becomes of the edge terminals.
-- Assumes the terms of `Holding` and `Division`. A side's lanes run between its two ends.
use Rattle.std.specs.Prelude.{ℕ, ◌+◌, ◌*◌, ◌<◌, ◌≤◌, ◌⊎◌, List}
use Rattle.records.specs.declared.Piece.{Piece}
use Rattle.records.specs.Few.{listed, Among}
use Rattle.pieces.specs.Sides.{Ends, span, Filled, Belongs}
use Rattle.pieces.specs.Holding.{piece_at, Holds}
use Rattle.pieces.specs.Division.{Division, CutInTwo}

-- the terminal z is not strictly between x and y
abbrev pub NotBetween : ℕ → ℕ → ℕ → Type 0
NotBetween x y z = (z ≤ x) ⊎ (y ≤ z)

-- P is cut along a seam with the ends x < y into A, below the seam, and B
pub record PartedBySeam (n : ℕ) (e : Ends) (x y : ℕ) (P A B : Piece) : Type 0 where
  pub rising : x < y
  -- the lanes of A have both ends in [x, y]
  pub inner_lanes : (i b : ℕ) → i + 3 < 2 * n → Belongs (span e) i b → Holds (span e) A b → (x ≤ e.low i) × (e.high i ≤ y)
  -- the lanes of B have none strictly between
  pub outer_lanes : (i b : ℕ) → i + 3 < 2 * n → Belongs (span e) i b → Holds (span e) B b → NotBetween x y (e.low i) × NotBetween x y (e.high i)
  -- the edge terminals of P are among those of A and B, and x and y are edge terminals of both
  pub edges_passed : (z : ℕ) → Among z (listed P.edges) → Among z (listed A.edges) ⊎ Among z (listed B.edges)
  pub x_edge : Among x (listed A.edges) × Among x (listed B.edges)
  pub y_edge : Among y (listed A.edges) × Among y (listed B.edges)

abbrev pub SeamsPartLanes : Type 0
SeamsPartLanes =
    (n : ℕ) (e : Ends) (ps : List Piece) → Filled n e → Division n e ps → (p : ℕ) → p + 5 < 2 * n
    → CutInTwo n (span e) p (piece_at ps p) (piece_at ps (piece_at ps p).first) (piece_at ps (piece_at ps p).second)
    → PartedBySeam n e (e.low (piece_at ps p).seam) (e.high (piece_at ps p).seam) (piece_at ps p) (piece_at ps (piece_at ps p).first) (piece_at ps (piece_at ps p).second)
