-- What dividing a plan does: the refusals, what is left as it was, and the division.
-- Assumes the terms of `pieces`; n is the number of terminals, and the sides are the first 2n - 3 of the side area.
use Rattle.std.specs.Prelude.{◌≡◌, ℕ, ◌+◌, ◌-◌, ◌*◌, ◌<◌, ◌≤◌, ◌⊎◌, List, length, take, drop, codes, Ok, Err, Result}
use Rattle.ring.specs.declared.Side.{Side}
use Rattle.records.specs.declared.Piece.{Piece}
use Rattle.pieces.specs.Sides.{Ends, ends_of, span, Filled}
use Rattle.pieces.specs.Cuts.{whole}
use Rattle.pieces.specs.Order.{Records}
use Rattle.pieces.specs.Marks.{SameSides, mark_all}
use Rattle.pieces.specs.Division.{Division, LeavesMarked}
use Rattle.division.specs.declared.Undivided.{Undivided}
use Rattle.division.specs.declared.Undivided.TheVariants.{Terminals, Short, NotFilled}

-- a refusal in words
abbrev pub reason : Undivided → List ℕ
reason Terminals = codes "a ring has 3 to 4096 terminals"
reason Short = codes "an area is too short"
reason NotFilled = codes "the sides are no filled ring"

-- the ends of the first 2n - 3 sides
abbrev pub front_ends : ℕ → List Side → Ends
front_ends n ss = ends_of (take (2 * n - 3) ss)

-- the areas are long enough for n terminals
pub record Lent (n : ℕ) (ss : List Side) (ps ts : List Piece) : Type 0 where
  pub least : 3 ≤ n
  pub most : n ≤ 4096
  pub sides : 2 * n ≤ length ss + 3
  pub pieces : 2 * n ≤ length ps + 5
  pub list : 64 ≤ length ts

-- an area is too short
abbrev pub TooShort : ℕ → List Side → List Piece → List Piece → Type 0
TooShort n ss ps ts = (length ss + 3 < 2 * n) ⊎ ((length ps + 5 < 2 * n) ⊎ (length ts < 64))

-- nothing was written
pub record Untouched (ss : List Side) (ps : List Piece) (ss' : List Side) (ps' : List Piece) : Type 0 where
  pub sides : ss' ≡ ss
  pub pieces : ps' ≡ ps

-- no record past the needed lengths was written, and of the sides nothing but their leaves
pub record Kept (n : ℕ) (ss : List Side) (ps : List Piece) (ss' : List Side) (ps' : List Piece) : Type 0 where
  pub sides : SameSides ss ss'
  pub sides_past : drop (2 * n - 3) ss' ≡ drop (2 * n - 3) ss
  pub pieces_past : drop (2 * n - 5) ps' ≡ drop (2 * n - 5) ps

-- the pieces are a division of the ring with the ends e, and every side names its leaf piece
pub record Divided (n : ℕ) (e : Ends) (ss' : List Side) (ps' : List Piece) : Type 0 where
  pub records : Records e 0 whole (take (2 * n - 5) ps')
  pub division : Division n e ps'
  pub leaves : LeavesMarked n ss' (span e) ps'

abbrev pub Outcome : ℕ → List Side → List Piece → List Piece → Result Unit Undivided → List Side → List Piece → Type 0
Outcome n ss ps ts (Err Terminals) ss' ps' = ((n < 3) ⊎ (4096 < n)) × Untouched ss ps ss' ps'
Outcome n ss ps ts (Err Short) ss' ps' = (3 ≤ n) × (n ≤ 4096) × TooShort n ss ps ts × Untouched ss ps ss' ps'
Outcome n ss ps ts (Err NotFilled) ss' ps' = Lent n ss ps ts × (Filled n (front_ends n ss) → ⊥) × Kept n ss ps ss' ps'
Outcome n ss ps ts (Ok _) ss' ps' = Lent n ss ps ts × (Filled n (front_ends n ss) → Divided n (front_ends n ss) ss' ps') × Kept n ss ps ss' ps'

-- the same for side and piece areas of just the needed lengths
pub record FrontDone (e : Ends) (count : ℕ) (ss : List Side) (r : Result Unit Undivided) (ss' : List Side) (ps' : List Piece) : Type 0 where
  pub answer : r ≡ Ok tt
  pub records : Records e 0 whole (take count ps')
  pub marks : ss' ≡ mark_all ss ps' count

-- two divisions of sides with the same ends and links leave the same records, side by side and piece by piece
abbrev pub SameSidesSameRecords : Type 0
SameSidesSameRecords =
    (n : ℕ) (ss tt ss' tt' : List Side) (ps qs : List Piece) → Filled n (front_ends n ss) → 2 * n ≤ length ss + 3 → SameSides (take (2 * n - 3) ss) (take (2 * n - 3) tt)
    → SameSides ss ss' → SameSides tt tt' → Divided n (front_ends n ss) ss' ps → Divided n (front_ends n tt) tt' qs
    → (take (2 * n - 5) ps ≡ take (2 * n - 5) qs) × (take (2 * n - 3) ss' ≡ take (2 * n - 3) tt')
