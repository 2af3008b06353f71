-- The join of an offered trip's lane rates is exact, since there are few and none is large.
-- Assumes the laws of the kind.
use Rattle.std.proofs.Common.{◌≡◌, ℕ, ◌*◌, ◌<◌, ◌≤◌, true, false, List, [], ◌∷◌, map, length, get_or, Option, Some, None, MatchOption, sym, subst, not-suc-le-zero, arith}
use Rattle.std.specs.List.{AllByRecursion, AllWithin, HoldsAt}
use Rattle.std.proofs.lemmas.List.{get_or-map, length-map}
use Rattle.std.proofs.ByRecursion.{All-from_get_or}
use Rattle.rates.specs.Kinds.{Kind, Laws, exact_size}
use Rattle.rates.specs.Many.{sizes}
use Rattle.offers.specs.Offers.{LaneRates, Found, Offer}

module _ {M : Type 0} (K : Kind M) (X : Laws K) where
  sizes_bound : (lanes : List M) → AllByRecursion (λ a. K.lane a ≡ true) lanes → sizes K lanes ≤ 1000000000 * length lanes
  sizes_bound [] h = omega arith
  sizes_bound (a ∷ rest) (h, k) =
      omega (arith, X.lane_rate_size a h, X.limit_bounded, sizes_bound rest k)

  pub offer_is_exact : (lanes : List M) → Offer K lanes → sizes K lanes ≤ exact_size
  offer_is_exact lanes h =
      omega (arith, sizes_bound lanes (All-from_get_or (λ a. K.lane a ≡ true) lanes K.none h.lane_rates), h.not_too_many)

  module _ {V : Type 0} (means : V → M) where
    at_place : (P : M → Type 0) (vs : List V) (k : ℕ) → k < length vs → ((d : V) → P (means (get_or vs k d))) → P (get_or (map means vs) k K.none)
    at_place P [] k l h = absurd (not-suc-le-zero l)
    at_place P (v ∷ vs) k l h = subst P (sym (get_or-map means (v ∷ vs) k v K.none l)) (h v)

    abbrev pub IsLane : V → Type 0
    IsLane v = K.lane (means v) ≡ true

    abbrev pub IsNoLane : V → Type 0
    IsNoLane v = K.lane (means v) ≡ false

    lanes_before : (vs : List V) (n : ℕ) → n ≤ length vs → AllWithin IsLane vs 0 n → LaneRates K (map means vs) n
    lanes_before vs n l h k m = at_place (λ a. K.lane a ≡ true) vs k (omega (arith, l, m)) (λ d. h k d (omega arith) m)

    pub first_found : (vs : List V) (r : Option ℕ) → MatchOption r (AllWithin IsLane vs 0 (length vs)) (λ i. (i < length vs) × HoldsAt IsNoLane vs i × AllWithin IsLane vs 0 i) → Found K (map means vs) r
    first_found vs None h = λ k m. lanes_before vs (length vs) (omega arith) h k (rw length-map at m)
    first_found vs (Some i) h = record {
      within = rw length-map h.0;
      no_lane_rate = at_place (λ a. K.lane a ≡ false) vs i h.0 h.1;
      before = lanes_before vs i (omega (arith, h.0)) h.2;
    }
