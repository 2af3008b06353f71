-- What a piece record describes: the triangles that it holds, its bounding seams, and the pieces above it.
-- Assumes nothing: a record of any content describes some set of triangles.
use Rattle.std.specs.Prelude.{◌≡◌, ℕ, zero, suc, ◌+◌, ◌-◌, ◌*◌, ◌<◌, Bool, true, cond, not, ◌&&◌, ◌⊎◌, List, [], ◌∷◌, filter, ◌==◌, nat_le, slice_index_or}
use Rattle.records.specs.declared.Piece.{Piece}
use Rattle.pieces.specs.Sides.{Ends, within, SideOf}
use Rattle.records.specs.Few.{listed, Among}
use Rattle.pieces.specs.Cuts.{whole}

-- the record at an index; past the last, all fields are 0
abbrev pub piece_at : List Piece → ℕ → Piece
piece_at ps p = slice_index_or ps p whole

-- the side b lies below none of the sides hs
abbrev pub clear : (ℕ → ℕ) → List ℕ → ℕ → Bool
clear len [] b = true
clear len (h ∷ hs) b = not (within len h b) && clear len hs b

-- the piece holds the triangle with the base b: b is a base, at or below the top, and below no hole
abbrev pub holds : (ℕ → ℕ) → Piece → ℕ → Bool
holds len P b = nat_le 2 (len b) && (within len P.top b && clear len (listed P.holes) b)

abbrev pub Holds : (ℕ → ℕ) → Piece → ℕ → Type 0
Holds len P b = holds len P b ≡ true

-- how many numbers below m pass the test f
abbrev pub count : (ℕ → Bool) → ℕ → ℕ
count f zero = 0
count f (suc m) = cond (f m) 1 0 + count f m

-- the number of a piece's triangles, among the 2n - 3 sides
abbrev pub held : ℕ → (ℕ → ℕ) → Piece → ℕ
held n len P = count (holds len P) (2 * n - 3)

-- the bounding seams as the record lists them: the holes, and the top unless it is the side 0
abbrev pub bounds : Piece → List ℕ
bounds P = cond (P.top == 0) (listed P.holes) (P.top ∷ listed P.holes)

-- those of the list that are not s
abbrev pub others : ℕ → List ℕ → List ℕ
others s xs = filter (λ x. not (x == s)) xs

-- the piece a is the parent of p, or its parent's, and so on
pub data Above (ps : List Piece) : ℕ → ℕ → Type 0 where
  parent : {a p : ℕ} → 0 < p → (piece_at ps p).parent ≡ a → Above ps a p
  higher : {a q p : ℕ} → 0 < p → (piece_at ps p).parent ≡ q → Above ps a q → Above ps a p

-- s is a bounding seam of the piece P with the number p: the seam of a piece above p, and a side of one of P's triangles
pub record BoundingSeam (len : ℕ → ℕ) (ps : List Piece) (p : ℕ) (P : Piece) (s : ℕ) : Type 0 where
  pub cut_piece : ℕ
  pub above : Above ps cut_piece p
  pub cut_along : (piece_at ps cut_piece).seam ≡ s
  pub triangle : ℕ
  pub held_there : Holds len P triangle
  pub side : SideOf len triangle s

-- x is an end of one of the sides ss
pub record EndOf (e : Ends) (ss : List ℕ) (x : ℕ) : Type 0 where
  pub of_side : ℕ
  pub listed_there : Among of_side ss
  pub low_or_high : (x ≡ e.low of_side) ⊎ (x ≡ e.high of_side)
