-- Route parts, and how one is split: at the seam of a cut piece into parts of its children, in a triangle into lanes.
-- Assumes nothing: every function is total, on records of any content.
--
-- A part asks for a best trip between two terminals over the lanes of one piece. Which trip that is, is told by a table of
-- rates `best p u v`: the best rate from u to v over the lanes of the piece p.
use Rattle.std.specs.Prelude.{ℕ, ◌+◌, Bool, true, false, cond, not, ◌&&◌, ◌||◌, List, [], ◌∷◌, ◌==◌, nat_le}
use Rattle.rates.specs.Kinds.{Kind}
use Rattle.trips.specs.Trips.{LaneMap}
use Rattle.records.specs.declared.Piece.{Piece}
use Rattle.pieces.specs.Sides.{Ends}
use Rattle.pieces.specs.Holding.{piece_at}
use Rattle.piece_rates.specs.Climbing.{seam_ends}
use Rattle.piece_rates.specs.Triangles.{third_corner}
use Rattle.piece_rates.specs.Leaves.{leaf_lanes}

pub record Part : Type 0 where
  pub piece : ℕ
  pub from : ℕ
  pub to : ℕ

-- a part before others; one whose ends are the same is left out
abbrev pub kept : Part → List Part → List Part
kept q parts = cond (q.from == q.to) parts (q ∷ parts)

-- The children of a piece that is cut along a seam with the ends x < y are named by a Bool. The first (true) has the terminals
-- from x to y, the second (false) those not strictly between.
abbrev pub lies : ℕ → ℕ → Bool → ℕ → Bool
lies x y c u = cond c (nat_le x u && nat_le u y) (nat_le u x || nat_le y u)

abbrev pub both_lie : ℕ → ℕ → Bool → ℕ → ℕ → Bool
both_lie x y c u v = lies x y c u && lies x y c v

-- whether some child has both terminals, and the child that has them, the first if both do; otherwise the child that has u
abbrev pub together : ℕ → ℕ → ℕ → ℕ → Bool
together x y u v = both_lie x y true u v || both_lie x y false u v

abbrev pub home : ℕ → ℕ → ℕ → ℕ → Bool
home x y u v = cond (both_lie x y true u v) true (cond (both_lie x y false u v) false (lies x y true u))

-- the number of a child
abbrev pub child : Piece → Bool → ℕ
child P c = cond c P.first P.second

module _ {M : Type 0} (K : Kind M) (best : ℕ → ℕ → ℕ → M) where
  -- the rate of a part
  abbrev pub part_rate : Part → M
  part_rate q = best q.piece q.from q.to

  -- From u to v over the lanes of a piece P that is cut along the seam from x to y.
  module _ (P : Piece) (x y : ℕ) (u v : ℕ) where
    abbrev pub child_part : Bool → ℕ → ℕ → Part
    child_part c a b = record { piece = child P c; from = a; to = b }

    abbrev pub child_rate : Bool → ℕ → ℕ → M
    child_rate c a b = best (child P c) a b

    -- Both terminals lie in the child c: out of it by the end i of the seam, through the other child, and back by the other end.
    abbrev pub round_rate : Bool → Bool → M
    round_rate c i =
        K.join (K.join (child_rate c u (seam_ends x y i)) (child_rate (not c) (seam_ends x y i) (seam_ends x y (not i))))
        (child_rate c (seam_ends x y (not i)) v)

    abbrev pub round_parts : Bool → Bool → List Part
    round_parts c i =
        kept (child_part c u (seam_ends x y i)) (kept (child_part (not c) (seam_ends x y i) (seam_ends x y (not i)))
        (kept (child_part c (seam_ends x y (not i)) v) []))

    -- by the first end of the seam unless by the second is better
    abbrev pub round_end : Bool → Bool
    round_end c = not (K.better (round_rate c false) (round_rate c true))

    -- within the child unless going round is better
    abbrev pub split_together : Bool → List Part
    split_together c =
        cond (K.better (round_rate c (round_end c)) (child_rate c u v)) (round_parts c (round_end c)) (kept (child_part c u v) [])

    -- The terminal u lies in the child c alone, v in the other alone: by the end i of the seam.
    abbrev pub across_rate : Bool → Bool → M
    across_rate c i = K.join (child_rate c u (seam_ends x y i)) (child_rate (not c) (seam_ends x y i) v)

    abbrev pub across_parts : Bool → Bool → List Part
    across_parts c i = kept (child_part c u (seam_ends x y i)) (kept (child_part (not c) (seam_ends x y i) v) [])

    abbrev pub across_end : Bool → Bool
    across_end c = not (K.better (across_rate c false) (across_rate c true))

    abbrev pub split_across : Bool → List Part
    split_across c = across_parts c (across_end c)

    abbrev pub split_at : List Part
    split_at = cond (together x y u v) (split_together (home x y u v)) (split_across (home x y u v))

  -- A part of a cut piece, split: at most three parts of its children, each with two different ends.
  abbrev pub split : Ends → List Piece → Part → List Part
  split e ps q =
      split_at (piece_at ps q.piece) (e.low (piece_at ps q.piece).seam) (e.high (piece_at ps q.piece).seam) q.from q.to

module _ {M : Type 0} (K : Kind M) where
  -- The stops after u of a best trip from u to v within the triangle with the corners a, b, c and the lanes l:
  -- straight to v, unless by the third corner is better.
  abbrev pub triangle_stops : LaneMap M → ℕ → ℕ → ℕ → ℕ → ℕ → List ℕ
  triangle_stops l a b c u v =
      cond (K.better (K.join (l u (third_corner a b c u v)) (l (third_corner a b c u v) v)) (l u v))
      (third_corner a b c u v ∷ v ∷ []) (v ∷ [])

  -- the same for a part of a piece of one triangle, by the area of lane rates
  abbrev pub leaf_stops : Ends → List Piece → List M → Part → List ℕ
  leaf_stops e ps area q =
      triangle_stops (leaf_lanes K e (piece_at ps q.piece).top area)
      (e.low (piece_at ps q.piece).top) (e.high ((piece_at ps q.piece).top + 1)) (e.high (piece_at ps q.piece).top) q.from q.to
