-- The ten worked examples, by one computed test over their table.
-- Assumes nothing.
use Rattle.std.proofs.Common.{◌≡◌, ℕ, Bool, true, not, ◌&&◌, List, [], ◌∷◌, refl}
use Rattle.std.specs.List.{AllByRecursion}
use Rattle.std.proofs.lemmas.Bool.{and_parts, not-true}
use Rattle.std.proofs.lemmas.Bool.Decides.{not_from_Decides}
use Rattle.trips.specs.Examples.{Kinds, Lane, network, Claim, Holds, Example, Shown, examples, ExamplesShown}
use Rattle.trips.specs.Examples.Example.{says, crossing, apart}
use Rattle.trips.proofs.CrossingTest.{cross_test, cross_decided}
use Rattle.trips.proofs.ExampleTests.{claim_test, claim_shown}

abbrev claims_test : (k : Kinds) → ℕ → List (Lane k) → List (Claim k) → Bool
claims_test k n ls [] = true
claims_test k n ls (c ∷ cs) = claim_test k n ls c && claims_test k n ls cs

claims_shown : (k : Kinds) (n : ℕ) (ls : List (Lane k)) (cs : List (Claim k)) → claims_test k n ls cs ≡ true → AllByRecursion (Holds k (network k ls)) cs
claims_shown k n ls [] e = tt
claims_shown k n ls (c ∷ cs) e =
    let p = and_parts (claim_test k n ls c) (claims_test k n ls cs) e in (claim_shown k n ls c p.0, claims_shown k n ls cs p.1)

abbrev test : Example → Bool
test (says k n ls cs) = claims_test k n ls cs
test (crossing l m) = cross_test l m
test (apart l m) = not (cross_test l m)

shown : (x : Example) → test x ≡ true → Shown x
shown (says k n ls cs) e = claims_shown k n ls cs e
shown (crossing l m) e = (cross_decided l m).0 e
shown (apart l m) e = not_from_Decides (cross_test l m) (cross_decided l m) (not-true (cross_test l m) e)

abbrev all_test : List Example → Bool
all_test [] = true
all_test (x ∷ xs) = test x && all_test xs

all_shown : (xs : List Example) → all_test xs ≡ true → AllByRecursion Shown xs
all_shown [] e = tt
all_shown (x ∷ xs) e = let p = and_parts (test x) (all_test xs) e in (shown x p.0, all_shown xs p.1)

pub examples_shown : ExamplesShown
examples_shown = all_shown examples refl
