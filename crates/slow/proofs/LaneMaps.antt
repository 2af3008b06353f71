-- The lane map that an area shows: over which terminals, and how large its rates are.
-- Assumes the laws of the kind.
use Rattle.std.proofs.Common.{◌≡◌, ℕ, ◌+◌, ◌*◌, ◌<◌, ◌≤◌, ◌&&◌, ltb, ◌⊎◌, List, map, length, ap, ◌∙◌, inl, inr, ⊎_elim, arith}
use mathlib.Core.Logic.{∥∥₁_elim}
use Rattle.std.specs.Coded.{le_prop}
use Rattle.std.proofs.lemmas.List.{length-map}
use Rattle.std.proofs.lemmas.Bool.{cases_Bool, and_parts, and_from, ltb-true, lt-ltb, cond-true, cond-false}
use Rattle.rates.specs.Kinds.{Kind, Laws}
use Rattle.trips.specs.Trips.{Over}
use Rattle.slow.specs.Areas.{entry, lane_map, Few, LanesBelow, LaneArea}
use Rattle.slow.specs.Rows.{lane_size}
use Rattle.slow.proofs.Places.{place_within}

module _ {M : Type 0} (K : Kind M) (X : Laws K) (n : ℕ) (area : List M) where
  -- between terminals below n it is the entry, and elsewhere none
  lane_cases : (u v : ℕ) → ((u < n) × (v < n) × (lane_map K n area u v ≡ entry K n area u v)) ⊎ (lane_map K n area u v ≡ K.none)
  lane_cases u v =
      ⊎_elim
      (λ e. let p = and_parts (ltb u n) (ltb v n) e in inl (ltb-true u n p.0, ltb-true v n p.1, cond-true (ltb u n && ltb v n) (entry K n area u v) K.none e))
      (λ e. inr (cond-false (ltb u n && ltb v n) (entry K n area u v) K.none e))
      (cases_Bool (ltb u n && ltb v n))

  pub lane_is_entry : (u v : ℕ) → u < n → v < n → lane_map K n area u v ≡ entry K n area u v
  lane_is_entry u v l k =
      cond-true (ltb u n && ltb v n) (entry K n area u v) K.none (and_from (ltb u n) (ltb v n) (lt-ltb u n l) (lt-ltb v n k))

  pub lanes_below : Over K n (lane_map K n area)
  lanes_below u v s = ⊎_elim (λ c. (c.0, c.1)) (λ e. absurd (s e)) (lane_cases u v)

  pub lanes_small : LaneArea K n area → (u v : ℕ) → K.size (lane_map K n area u v) ≤ lane_size
  lanes_small h u v =
      ⊎_elim
      (λ c. ⊎_elim
      (λ e. omega (arith, ap K.size (c.2 ∙ e), X.none_size))
      (λ e. omega (arith, ap K.size c.2, X.lane_rate_size (entry K n area u v) e, X.limit_bounded))
      (h.lanes (n * u + v) (place_within n u v c.0 c.1)))
      (λ e. omega (arith, ap K.size e, X.none_size))
      (lane_cases u v)

module _ {M : Type 0} (K : Kind M) (X : Laws K) {V : Type 0} (means : V → M) (n : ℕ) (rates : List V) where
  -- the same of lanes that are held
  pub held_small : Few n → length rates ≡ n * n → ∥ LanesBelow K (map means rates) (n * n) ∥₁ → (u v : ℕ) → K.size (lane_map K n (map means rates) u v) ≤ lane_size
  held_small few square lanes u v =
      ∥∥₁_elim lanes le_prop
      (λ below. lanes_small K X n (map means rates) (record { few = few; square = length-map rates means ∙ square; lanes = below }) u v)
