-- Ways down from a piece towards one terminal or two, and the way back up.
-- Assumes the terms of `Holders` and `Touching`; the ends are those of a filled ring, the records a division of it.
use Rattle.std.specs.Prelude.{◌≡◌, ℕ, ◌+◌, ◌*◌, ◌<◌, Bool, cond, not, ◌&&◌, ◌||◌, ◌⊎◌, List, ◌≢◌, nat_le}
use Rattle.records.specs.declared.Piece.{Piece}
use Rattle.records.specs.Few.{listed, Among}
use Rattle.pieces.specs.Sides.{Ends, Filled}
use Rattle.pieces.specs.Holding.{piece_at}
use Rattle.pieces.specs.Division.{Division}
use Rattle.pieces.specs.Holders.{OnWayUp}
use Rattle.piece_rates.specs.Touching.{Touches}
use Rattle.climbing.specs.Lines.{OnSide}

-- the tests on which side of the seam from x to y a terminal lies; the ends lie on both
abbrev pub between : ℕ → ℕ → ℕ → Bool
between x y u = nat_le x u && nat_le u y

abbrev pub outside : ℕ → ℕ → ℕ → Bool
outside x y u = nat_le u x || nat_le y u

-- the child of P on u's side of the seam
abbrev pub towards : Ends → Piece → ℕ → ℕ
towards e P u = cond (between (e.low P.seam) (e.high P.seam) u) P.first P.second

-- the child of P on the side of both u and v; 0 where there is none
abbrev pub towards_both : Ends → Piece → ℕ → ℕ → ℕ
towards_both e P u v =
    cond (between (e.low P.seam) (e.high P.seam) u && between (e.low P.seam) (e.high P.seam) v) P.first
    (cond (outside (e.low P.seam) (e.high P.seam) u && outside (e.low P.seam) (e.high P.seam) v) P.second 0)

-- the piece r is p or below it, and touches u
pub record Reaches (n : ℕ) (e : Ends) (ps : List Piece) (p u r : ℕ) : Type 0 where
  pub in_range : r + 5 < 2 * n
  pub below : OnWayUp ps p r
  pub touches : Touches n e (piece_at ps r) u

-- a climb of u's line can begin at the piece r: u is an edge terminal of it, or it is a single triangle
pub record Begins (n : ℕ) (e : Ends) (ps : List Piece) (p u r : ℕ) : Type 0 where
  pub reaches : Reaches n e ps p u r
  pub line_there : ((piece_at ps r).first ≡ 0) ⊎ Among u (listed (piece_at ps r).edges)

-- the way down towards both u and v ends at P: both are edge terminals, or it is a single triangle
abbrev pub Ending : Piece → ℕ → ℕ → Type 0
Ending P u v = (P.first ≡ 0) ⊎ (Among u (listed P.edges) × Among v (listed P.edges))

-- the seam of P has u on one side, that of the child towards it, and v on the other
abbrev pub Parting : Ends → Piece → ℕ → ℕ → Type 0
Parting e P u v =
    OnSide (between (e.low P.seam) (e.high P.seam) u) (e.low P.seam) (e.high P.seam) u
    × OnSide (not (between (e.low P.seam) (e.high P.seam) u)) (e.low P.seam) (e.high P.seam) v

-- the piece r, at or below p, is where the way down towards both u and v ends or parts
pub record Parts (n : ℕ) (e : Ends) (ps : List Piece) (p u v r : ℕ) : Type 0 where
  pub reaches_first : Reaches n e ps p u r
  pub reaches_second : Reaches n e ps p v r
  pub ends_or_parts : (Ending (piece_at ps r) u v → ⊥) → Parting e (piece_at ps r) u v

-- one piece further down
pub record Deeper (n : ℕ) (e : Ends) (ps : List Piece) (p u q r : ℕ) : Type 0 where
  pub reaches : Reaches n e ps p u r
  pub one_level : (piece_at ps r).level ≡ (piece_at ps q).level + 1

abbrev pub WaysDown : Type 0
WaysDown =
    (n : ℕ) (e : Ends) (ps : List Piece) → Filled n e → Division n e ps
    → (p u q : ℕ) → Reaches n e ps p u q → ((piece_at ps q).first ≢ 0)
    → Deeper n e ps p u q (towards e (piece_at ps q) u)

abbrev pub WaysPart : Type 0
WaysPart =
    (n : ℕ) (e : Ends) (ps : List Piece) → Filled n e → Division n e ps
    → (p u v q : ℕ) → Reaches n e ps p u q → Reaches n e ps p v q → ((piece_at ps q).first ≢ 0)
    → ((towards_both e (piece_at ps q) u v ≢ 0) → Deeper n e ps p u q (towards_both e (piece_at ps q) u v) × Deeper n e ps p v q (towards_both e (piece_at ps q) u v))
    × (towards_both e (piece_at ps q) u v ≡ 0 → Parting e (piece_at ps q) u v)

-- one piece up from p, on the way up to the piece stop
pub record Higher (n : ℕ) (e : Ends) (ps : List Piece) (stop p : ℕ) : Type 0 where
  pub not_first : 0 < p
  pub in_range : (piece_at ps p).parent + 5 < 2 * n
  pub below : OnWayUp ps stop (piece_at ps p).parent
  pub one_level : (piece_at ps p).level ≡ (piece_at ps (piece_at ps p).parent).level + 1
  pub touches : (u : ℕ) → Touches n e (piece_at ps p) u → Touches n e (piece_at ps (piece_at ps p).parent) u

abbrev pub WaysUp : Type 0
WaysUp =
    (n : ℕ) (e : Ends) (ps : List Piece) → Filled n e → Division n e ps
    → (stop p : ℕ) → p + 5 < 2 * n → OnWayUp ps stop p → (p ≢ stop) → Higher n e ps stop p
