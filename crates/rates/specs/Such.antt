-- Values that pass a test are the same where they are the same value.
-- Assumes nothing.
use Rattle.std.specs.Prelude.{◌≡◌, Bool, T}
use Rattle.std.proofs.Common.{ap, subst}
use Rattle.std.proofs.Math.Dec.{T_prop}
use Rattle.rates.specs.Kinds.{Such}

pub such_same : {M : Type 0} (test : M → Bool) (x y : Such test) → x.value ≡ y.value → x ≡ y
such_same test x y e =
    subst (λ v. (p : T (test v)) → x ≡ record { value = v; passes = p }) e
    (λ p. ap (λ q. record { value = x.value; passes = q }) (T_prop (test x.value) x.passes p))
    y.passes
