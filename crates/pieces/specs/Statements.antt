-- The theorems of this crate, each carried by the contract of a function.
-- Assumes the terms of `Sides`, `Order` and `Division`.
use Rattle.std.specs.Prelude.{◌≡◌, ℕ, ◌-◌, ◌*◌, List, take}
use Rattle.records.specs.declared.Piece.{Piece}
use Rattle.pieces.specs.Sides.{Ends, Filled}
use Rattle.pieces.specs.Cuts.{whole}
use Rattle.pieces.specs.Order.{Records}
use Rattle.pieces.specs.Division.{Division}

-- the records of the whole plan and of all pieces below it are a division of the filled ring
abbrev pub RecordsDivide : Type 0
RecordsDivide = (n : ℕ) (e : Ends) (ps ds : List Piece) → Filled n e → Records e 0 whole ds → take (2 * n - 5) ps ≡ ds → Division n e ps

-- they depend on the ends of the sides alone
abbrev pub OneListOfRecords : Type 0
OneListOfRecords = (e : Ends) (ds ds' : List Piece) → Records e 0 whole ds → Records e 0 whole ds' → ds ≡ ds'
