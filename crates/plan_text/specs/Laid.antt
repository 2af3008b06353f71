-- A plan laid out: what `lay` answers, the deepest level of a piece, and the most pieces that hold one lane.
-- Assumes the terms of `plan`, `ring` and `pieces`; n is the number of terminals.
use Rattle.std.specs.Prelude.{◌≡◌, ℕ, ◌+◌, ◌-◌, ◌*◌, ◌<◌, ◌≤◌, List, [], length, Ok, Err, slice_index_or}
use Rattle.ring.specs.declared.Link.{Link}
use Rattle.ring.specs.declared.Side.{Side}
use Rattle.ring.specs.declared.PlanFault.{PlanFault}
use Rattle.ring.specs.Faults.{Condition, First}
use Rattle.records.specs.declared.Piece.{Piece}
use Rattle.pieces.specs.Sides.{Ends, span, no_side, Filled, Belongs}
use Rattle.pieces.specs.Holding.{piece_at, holds, count}
use Rattle.pieces.specs.Division.{Division, LeavesMarked}
use Rattle.pieces.specs.Holders.{way_up}
use Rattle.division.specs.Outcome.{front_ends}
use Rattle.plan.specs.Layout.{Layout}
use Rattle.plan_text.specs.declared.laid.Laid.{Laid}
use Rattle.plan_text.specs.declared.laid.LayError.{LayError}
use Rattle.plan_text.specs.declared.laid.LayError.TheVariants.{Refused as IsRefused, OutOfMemory}

-- r is the greatest level of a piece, or 0 if there is none
pub record Deepest (pieces : List Piece) (r : ℕ) : Type 0 where
  pub none_deeper : (k : ℕ) → k < length pieces → (piece_at pieces k).level ≤ r
  pub reached : 0 < r → (k : ℕ) × (k < length pieces) × ((piece_at pieces k).level ≡ r)

-- the leaf piece that the side i names
abbrev pub leaf_of : List Side → ℕ → ℕ
leaf_of sides i = (slice_index_or sides i no_side).leaf

-- how many pieces stand on the way up from a piece, itself among them
unfoldable pub way_length : List Piece → ℕ → ℕ
way_length pieces p = length (way_up pieces 41 p)

-- how many pieces hold the triangle with the base b
abbrev pub holder_count : ℕ → Ends → List Piece → ℕ → ℕ
holder_count n e pieces b = count (λ p. holds (span e) (piece_at pieces p) b) (2 * n - 5)

-- the side and piece records are a filled ring with the ends e and its division, and nothing past them
pub record DividedRing (n : ℕ) (e : Ends) (sides : List Side) (pieces : List Piece) : Type 0 where
  pub filled : Filled n e
  pub division : Division n e pieces
  pub leaves : LeavesMarked n sides (span e) pieces
  pub all_sides : length sides + 3 ≡ 2 * n
  pub all_pieces : length pieces + 5 ≡ 2 * n

-- r is the greatest number of pieces that hold the lanes of one side
pub record MostHeld (n : ℕ) (e : Ends) (pieces : List Piece) (r : ℕ) : Type 0 where
  pub none_more : (i b : ℕ) → i + 3 < 2 * n → Belongs (span e) i b → holder_count n e pieces b ≤ r
  pub reached : (i : ℕ) × (b : ℕ) × (i + 3 < 2 * n) × Belongs (span e) i b × (holder_count n e pieces b ≡ r)

-- r is the greatest length of a way up from a side's leaf piece, or 0 if there is no side; in a division, the greatest number
-- of pieces that hold one lane
pub record MostHolders (sides : List Side) (pieces : List Piece) (r : ℕ) : Type 0 where
  pub at_most : r ≤ 41
  pub none_more : (i : ℕ) → i < length sides → way_length pieces (leaf_of sides i) ≤ r
  pub reached : 0 < r → (i : ℕ) × (i < length sides) × (way_length pieces (leaf_of sides i) ≡ r)
  pub in_a_division : (n : ℕ) (e : Ends) → DividedRing n e sides pieces → MostHeld n e pieces r

-- The plan has no fault, and this is its layout. The records are as many as it needs, so none stands past them, and what the
-- areas held before does not matter.
pub record LaidOut (n : ℕ) (links : List Link) (laid : Laid) : Type 0 where
  pub terminals : laid.terminals ≡ n
  pub no_fault : First (Condition n [] links) (Ok tt)
  pub layout : Layout n links laid.sides.items laid.pieces.items laid.sides.items laid.pieces.items
  pub ring : DividedRing n (front_ends n laid.sides.items) laid.sides.items laid.pieces.items

-- the fault is the first that the plan has; it is none of an area, since no areas are lent
abbrev pub Refused : ℕ → List Link → PlanFault → Type 0
Refused n links fault = First (Condition n [] links) (Err fault)

-- why the plan is not laid out: it is refused by this fault, or memory has run out
abbrev pub NotLaid : ℕ → List Link → LayError → Type 0
NotLaid n links (IsRefused fault) = Refused n links fault
NotLaid n links OutOfMemory = Unit {0}
