-- A pair of kinds of rate, the first before the second: none, or a member of each other than none.
-- Assumes nothing; that it keeps the laws asks that the first kind is strict.
use Rattle.std.specs.Prelude.{ℕ, max, Bool, true, false, cond, ◌&&◌, T}
use Rattle.rates.specs.Kinds.{Kind, Such, stands}

-- A member other than none.
abbrev pub Other : {M : Type 0} → Kind M → Type 0
Other K = Such (stands K)

pub data Couple {M N : Type 0} (K : Kind M) (L : Kind N) : Type 0 where
  no_couple : Couple K L
  couple : Other K → Other L → Couple K L

module _ {M N : Type 0} (K : Kind M) (L : Kind N) where
  -- the couple of a and b, or none where either is none, given what the two tests answer
  abbrev pub by_tests : (a : M) (b : N) (x y : Bool) → (T x → T (stands K a)) → (T y → T (stands L b)) → Couple K L
  by_tests a b true true p q = couple (record { value = a; passes = p tt }) (record { value = b; passes = q tt })
  by_tests a b true false p q = no_couple
  by_tests a b false y p q = no_couple

  -- the couple of a and b, or none where either is none
  abbrev pub couple_of : M → N → Couple K L
  couple_of a b = by_tests a b (stands K a) (stands L b) (λ t. t) (λ t. t)

  -- part by part
  abbrev pub joined : Couple K L → Couple K L → Couple K L
  joined no_couple y = no_couple
  joined (couple a b) no_couple = no_couple
  joined (couple a b) (couple c d) = couple_of (K.join a.value c.value) (L.join b.value d.value)

  -- the first decides, and between equal firsts the second
  abbrev pub before : Couple K L → Couple K L → Bool
  before no_couple y = false
  before (couple a b) no_couple = true
  before (couple a b) (couple c d) =
      cond (K.better a.value c.value) true
      (cond (K.better c.value a.value) false (L.better b.value d.value))

  -- the larger of the two sizes
  abbrev pub couple_size : Couple K L → ℕ
  couple_size no_couple = 0
  couple_size (couple a b) = max (K.size a.value) (L.size b.value)

  abbrev pub both_lane_rates : Couple K L → Bool
  both_lane_rates no_couple = false
  both_lane_rates (couple a b) = K.lane a.value && L.lane b.value

  abbrev pub pair_kind : Kind (Couple K L)
  pair_kind = record {
    still = couple_of K.still L.still;
    none = no_couple;
    join = joined;
    better = before;
    size = couple_size;
    lane = both_lane_rates;
    limit = 1000000000;
  }
