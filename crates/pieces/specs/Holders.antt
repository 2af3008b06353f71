-- The pieces that hold a triangle: the uncut piece that does, and the pieces above it; and the walk up from a piece.
-- Assumes the terms of `Holding` and `Division`.
use Rattle.std.specs.Prelude.{◌≡◌, ℕ, zero, suc, ◌+◌, ◌*◌, ◌<◌, ◌≤◌, Bool, cond, ◌&&◌, ◌⊎◌, List, [], ◌∷◌, length, nat_lt}
use Rattle.records.specs.declared.Piece.{Piece}
use Rattle.records.specs.Few.{Among}
use Rattle.pieces.specs.Sides.{Ends, span, Filled, Belongs}
use Rattle.pieces.specs.Holding.{piece_at, Holds, Above}
use Rattle.pieces.specs.Division.{Division, Uncut, LeafMarked}

-- the piece p is q or a piece above q
abbrev pub OnWayUp : List Piece → ℕ → ℕ → Type 0
OnWayUp ps p q = (p ≡ q) ⊎ Above ps p q

-- in a division the pieces that hold a triangle are the uncut one that does and those above it
abbrev pub HoldersOnWayUp : Type 0
HoldersOnWayUp =
    (n : ℕ) (e : Ends) (ps : List Piece) → Division n e ps → (q b : ℕ) → q + 5 < 2 * n → Uncut n (span e) (piece_at ps q) → Holds (span e) (piece_at ps q) b
    → (p : ℕ) → p + 5 < 2 * n → (Holds (span e) (piece_at ps p) b → OnWayUp ps p q) × (OnWayUp ps p q → Holds (span e) (piece_at ps p) b)

-- the record p names a parent with a lower number
abbrev pub climbs : List Piece → ℕ → Bool
climbs ps p = nat_lt p (length ps) && nat_lt (piece_at ps p).parent p

-- the way up from p, f pieces at the most, on records of any content
abbrev pub way_up : List Piece → ℕ → ℕ → List ℕ
way_up ps zero p = []
way_up ps (suc f) p = p ∷ cond (climbs ps p) (way_up ps f (piece_at ps p).parent) []

-- the most pieces on a way up: one at each level from 0 to 40
abbrev pub most_up : ℕ
most_up = 41

-- in a division the way up from q lists q and the pieces above it, one at each level down to q's
pub record WayUp (ps : List Piece) (q : ℕ) (ws : List ℕ) : Type 0 where
  pub one_a_level : length ws ≡ (piece_at ps q).level + 1
  pub at_most : length ws ≤ 41
  pub listed_are : (p : ℕ) → Among p ws → OnWayUp ps p q
  pub all_listed : (p : ℕ) → OnWayUp ps p q → Among p ws

abbrev pub WayUpComplete : Type 0
WayUpComplete =
    (n : ℕ) (e : Ends) (ps : List Piece) → Division n e ps → 2 * n ≤ length ps + 5 → (q f : ℕ) → q + 5 < 2 * n → 41 ≤ f → WayUp ps q (way_up ps f q)

-- ws are the pieces that hold the lanes of the side i
pub record LaneHolders (n : ℕ) (len : ℕ → ℕ) (ps : List Piece) (i : ℕ) (ws : List ℕ) : Type 0 where
  pub at_most : length ws ≤ 41
  pub all : (p b : ℕ) → p + 5 < 2 * n → Belongs len i b → Holds len (piece_at ps p) b → Among p ws
  pub only : (p b : ℕ) → Belongs len i b → Among p ws → Holds len (piece_at ps p) b

-- in a division whose sides name their leaves, the way up from a side's leaf lists the pieces that hold its lanes
abbrev pub LaneHoldersListed : Type 0
LaneHoldersListed =
    (n : ℕ) (e : Ends) (ps : List Piece) → Filled n e → Division n e ps → 2 * n ≤ length ps + 5
    → (i leaf f : ℕ) → i + 3 < 2 * n → LeafMarked n (span e) ps i leaf → 41 ≤ f → LaneHolders n (span e) ps i (way_up ps f leaf)
