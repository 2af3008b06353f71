-- Several terminals passed one after another, and those of a part of a piece of one triangle.
-- Assumes the terms of `stops` and `unfolding`.
use Rattle.std.specs.Prelude.{◌≡◌, ℕ, List, [], ◌∷◌, length}
use Rattle.rates.specs.Kinds.{Kind}
use Rattle.sheets.specs.declared.leaf.Triangle.{Triangle}
use Rattle.sheets.specs.Triangles.{triangle_lanes}
use Rattle.stops.specs.declared.Stops.{Stops}
use Rattle.stops.specs.Passing.{Passed}
use Rattle.unfolding.specs.Parts.{triangle_stops}

abbrev pub AllPassed : List ℕ → ℕ → List ℕ → ℕ → List ℕ → Type 0
AllPassed places count [] count' places' = (count' ≡ count) × (places' ≡ places)
AllPassed places count (w ∷ ws) count' places' =
    (between : List ℕ) × (k : ℕ) × (length between ≡ length places) × Passed places count w k between × AllPassed between k ws count' places'

abbrev pub PassedAll : Stops → List ℕ → Stops → Type 0
PassedAll stops ws stops' = AllPassed stops.places.now stops.count ws stops'.count stops'.places.now

module _ {V M : Type 0} (K : Kind M) (means : V → M) where
  -- the stops after u of a best trip from u to v within the triangle
  abbrev pub stops_within : Triangle V → ℕ → ℕ → List ℕ
  stops_within t u v = triangle_stops K (triangle_lanes K means t) t.low t.third t.high u v
