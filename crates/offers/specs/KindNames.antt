-- The names of the kinds of rate in texts.
-- Assumes nothing.
use Rattle.std.specs.Prelude.{◌≡◌, ℕ, List, Ok, Err, codes, Result, ◌≢◌}
use Rattle.offers.specs.declared.kinds.KindName.{KindName}
use Rattle.offers.specs.declared.kinds.KindName.TheVariants.{Cents, Tonnes, CentsBeforeTonnes}
use Rattle.offers.specs.declared.kinds.UnknownKind.{UnknownKind}

abbrev pub name_of : KindName → List ℕ
name_of Cents = codes "cents"
name_of Tonnes = codes "tonnes"
name_of CentsBeforeTonnes = codes "cents before tonnes"

-- a text names a kind where it is just the kind's name
abbrev pub Names : List ℕ → Result KindName UnknownKind → Type 0
Names text (Ok k) = text ≡ name_of k
Names text (Err _) = (k : KindName) → text ≢ name_of k
