-- A number of tonnes within the limit is read as that load.
-- Assumes nothing.
use Rattle.std.proofs.Common.{◌≡◌, ℕ, T, leb, ℤ, pos, sym, refl, ap, subst, arith, leb→le}
use Rattle.rates.specs.Loads.{most_tonnes}
use Rattle.rates.specs.Loads.Load.{up_to}
use Rattle.rates.specs.Such.{such_same}
use Rattle.offers.specs.Words.{LoadOf}

pub load_of : (z : ℤ) (n : ℕ) (w : T (leb n most_tonnes)) → z ≡ pos n → LoadOf z (up_to (record { value = n; passes = w }))
load_of z n w e =
    subst (λ y. LoadOf y (up_to (record { value = n; passes = w }))) (sym e) (
      λ h. ap up_to (such_same (λ k. leb k most_tonnes) (record { value = n; passes = w }) (record { value = n; passes = h }) refl),
      λ l. absurd (omega (arith, leb→le n most_tonnes w)),
    )
