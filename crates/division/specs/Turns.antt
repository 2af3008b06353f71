-- One turn of the division loop, on plain values: what is answered and which pieces wait afterwards.
-- Assumes the terms of `pieces`. The waiting pieces are the first k of ts, the last of them next.
use Rattle.std.specs.Prelude.{◌≡◌, ℕ, suc, ◌+◌, ◌*◌, ◌<◌, ◌≤◌, List, length, take, Ok, Result, slice_index_or, slice_set}
use Rattle.records.specs.declared.Piece.{Piece}
use Rattle.pieces.specs.Sides.{Ends, span, Filled}
use Rattle.pieces.specs.Cuts.{whole, size, single}
use Rattle.pieces.specs.Order.{Records, first_of, second_of, cut_record}
use Rattle.division.specs.declared.Undivided.{Undivided}

-- the turn was done, with this record, this list and this many waiting
pub record Done (r : Result Unit Undivided) (P' : Piece) (ts' : List Piece) (k' : ℕ) (P : Piece) (ts : List Piece) (k : ℕ) : Type 0 where
  pub answer : r ≡ Ok tt
  pub record_is : P' ≡ P
  pub list : ts' ≡ ts
  pub waiting : k' ≡ k

-- two pieces were put on the list, the first on top, if there was room for both
pub record BothWait {F : Type 0} (r : Result Unit F) (k : ℕ) (ts : List Piece) (first second : Piece) (k' : ℕ) (ts' : List Piece) : Type 0 where
  pub answer : suc k < length ts → r ≡ Ok tt
  pub list : suc k < length ts → ts' ≡ slice_set (slice_set ts k second) (suc k) first
  pub waiting : suc k < length ts → k' ≡ suc (suc k)

-- the turn at the number p, from ts and k to ts' and k', that writes the record P'
pub record Turn (e : Ends) (p : ℕ) (ts : List Piece) (k : ℕ) (r : Result Unit Undivided) (P' : Piece) (ts' : List Piece) (k' : ℕ) : Type 0 where
  -- a piece of one triangle is finished
  pub uncut : (j : ℕ) → k ≡ suc j → size (span e) (slice_index_or ts j whole) ≤ 1 → Done r P' ts' k' (single e (slice_index_or ts j whole)) ts j
  -- a piece of several is cut, and its parts take its place, the first on top
  pub cut : (j : ℕ) → k ≡ suc j → suc j < length ts → 2 ≤ size (span e) (slice_index_or ts j whole) → Done r P' ts' k' (cut_record e p (slice_index_or ts j whole)) (slice_set (slice_set ts j (second_of (span e) p (slice_index_or ts j whole))) (suc j) (first_of (span e) p (slice_index_or ts j whole))) (suc (suc j))

-- n terminals on a filled ring whose sides have the ends e, with `count` pieces, and room for 64 pieces that wait
pub record Fitting (n : ℕ) (e : Ends) (count : ℕ) (ts : List Piece) : Type 0 where
  pub filled : Filled n e
  pub pieces : count + 5 ≡ 2 * n
  pub list_room : 64 ≤ length ts

-- all records were written: those of the whole plan, in order
pub record AllCut (e : Ends) (count : ℕ) (r : Result Unit Undivided) (ps' : List Piece) : Type 0 where
  pub answer : r ≡ Ok tt
  pub records : Records e 0 whole (take count ps')
