-- How one piece is cut, step by step as the program does it: the seam, the two parts, the finished record.
-- Assumes nothing: every function has a value at any record and any ends. `Division` says what the results mean.
use Rattle.std.specs.Prelude.{ℕ, zero, suc, ◌+◌, ◌-◌, ◌*◌, min, Bool, cond, ltb, List, length, fold, sum_by, ◌==◌, nat_le, nat_lt}
use Rattle.records.specs.declared.Few.{Few}
use Rattle.records.specs.declared.Piece.{Piece}
use Rattle.records.specs.Few.{listed, none, added, raised}
use Rattle.records.specs.Limits.{share}
use Rattle.pieces.specs.Sides.{Ends, within}

-- an index as 16 bits hold it
abbrev pub cap : ℕ → ℕ
cap x = min x 65535

-- the children of a side
abbrev pub left : ℕ → ℕ
left v = cap (v + 1)

abbrev pub right : (ℕ → ℕ) → ℕ → ℕ
right len v = cap (v + 2 * len (left v))

-- the sum of w over the holes at or below the side v
abbrev pub load : (ℕ → ℕ) → (ℕ → ℕ) → List ℕ → ℕ → ℕ
load len w hs v = sum_by (λ h. cond (within len v h) (w h) 0) hs

-- the triangles at or below the side v and not below a hole
abbrev pub triangles : (ℕ → ℕ) → List ℕ → ℕ → ℕ
triangles len hs v = len v - 1 - load len (λ h. len h - 1) hs v

-- the weight of a side: the holes at or below it, or the triangles
abbrev pub weight : (ℕ → ℕ) → Bool → List ℕ → ℕ → ℕ
weight len four hs v = cond four (load len (λ _. 1) hs v) (triangles len hs v)

abbrev pub heavier : (ℕ → ℕ) → (ℕ → ℕ) → ℕ → ℕ
heavier len w v = cond (nat_lt (w (left v)) (w (right len v))) (right len v) (left v)

-- from the side v down to the heavier child while the weight is above most, f steps at the most
unfoldable pub descend : (ℕ → ℕ) → (ℕ → ℕ) → ℕ → ℕ → ℕ → ℕ
descend len w most zero v = v
descend len w most (suc f) v = cond (nat_lt most (w v)) (descend len w most f (heavier len w v)) v

-- how many bounding seams there are: the holes, and the top unless it is the ring's own side 0
abbrev pub seams : ℕ → List ℕ → ℕ
seams top hs = length hs + cond (top == 0) 0 1

abbrev pub four : ℕ → List ℕ → Bool
four top hs = seams top hs == 4

-- the most weight that a cut leaves below its seam
abbrev pub most : (ℕ → ℕ) → ℕ → List ℕ → ℕ
most len top hs = cond (four top hs) 2 (share (triangles len hs top))

-- the side along which a piece is cut
abbrev pub seam_of : (ℕ → ℕ) → ℕ → List ℕ → ℕ
seam_of len top hs = descend len (weight len (four top hs) hs) (most len top hs) (len top) top

-- the numbers of a list that pass a test, put behind those that are there
abbrev pub chosen : (ℕ → Bool) → Few → List ℕ → Few
chosen f to xs = fold (λ a x. cond (f x) (added a x) a) to xs

-- the holes below v; the holes before and behind v, and v between them
abbrev pub inner_holes : (ℕ → ℕ) → ℕ → Few → Few
inner_holes len v hs = chosen (within len v) none (listed hs)

abbrev pub outer_holes : (ℕ → ℕ) → ℕ → Few → Few
outer_holes len v hs = chosen (λ h. nat_le (v + 2 * len v) (h + 1)) (added (chosen (λ h. ltb h v) none (listed hs)) v) (listed hs)

-- a piece that is still to be cut
abbrev pub fresh : ℕ → ℕ → ℕ → Few → Piece
fresh parent level top holes = record { parent = parent; first = 0; second = 0; seam = 0; top = top; holes = holes; edges = none; level = level }

abbrev pub whole : Piece
whole = fresh 0 0 0 none

abbrev pub deeper : Piece → ℕ
deeper P = min (P.level + 1) 255

-- the two parts of the piece with the number p, cut along v
abbrev pub first_part : (ℕ → ℕ) → ℕ → Piece → ℕ → Piece
first_part len p P v = fresh p (deeper P) v (inner_holes len v P.holes)

abbrev pub second_part : (ℕ → ℕ) → ℕ → Piece → ℕ → Piece
second_part len p P v = fresh p (deeper P) P.top (outer_holes len v P.holes)

-- both ends of a side
abbrev pub around : Ends → Few → ℕ → Few
around e f h = raised (raised f (e.low h)) (e.high h)

-- the ends of the bounding seams in rising order
abbrev pub rim : Ends → ℕ → List ℕ → Few
rim e top hs = cond (top == 0) (fold (around e) none hs) (raised (fold (around e) (raised none (e.low top)) hs) (e.high top))

abbrev pub size : (ℕ → ℕ) → Piece → ℕ
size len P = triangles len (listed P.holes) P.top

-- the finished record of a piece of one triangle
abbrev pub single : Ends → Piece → Piece
single e P = record { parent = P.parent; first = 0; second = 0; seam = 0; top = P.top; holes = P.holes; edges = rim e P.top (listed P.holes); level = P.level }

-- the finished record of the piece with the number p, cut along v; s triangles lie in its first part
abbrev pub parted : Ends → ℕ → Piece → ℕ → ℕ → Piece
parted e p P v s = record { parent = P.parent; first = cap (p + 1); second = cap (p + 2 * s); seam = v; top = P.top; holes = P.holes; edges = rim e P.top (listed P.holes); level = P.level }
