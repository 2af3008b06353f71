-- What a walk up writes: the way up at the front of the area it is lent, and nothing behind.
-- Assumes the terms of `pieces`.
use Rattle.std.specs.Prelude.{◌≡◌, ℕ, ◌≤◌, min, List, length, take, drop}
use Rattle.records.specs.declared.Piece.{Piece}
use Rattle.pieces.specs.Holders.{way_up}

-- r numbers were written: the way up from p, as far as the area and 41 pieces go
pub record Walked (ps : List Piece) (p : ℕ) (out : List ℕ) (r : ℕ) (out' : List ℕ) : Type 0 where
  pub numbers : take r out' ≡ way_up ps (min (length out) 41) p
  pub behind : drop r out' ≡ drop r out
  pub inside : r ≤ length out
  pub at_most : r ≤ 41
