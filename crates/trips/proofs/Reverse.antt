-- A trip taken backward over the lanes turned round has the same rate.
-- Assumes the laws of the kind.
use Rattle.std.proofs.Common.{◌≡◌, ℕ, Bool, sym, refl, ap, ◌∙◌, inl, inr}
use Rattle.rates.specs.Kinds.{Kind, Laws, NoWorse}
use Rattle.rates.specs.Order.{join_still}
use Rattle.trips.specs.Trips.{LaneMap, Trip, rate, NoEarning}
use Rattle.trips.specs.Trips.Trip.{stay, go}
use Rattle.trips.specs.Climbs.{Meeting}
use Rattle.trips.proofs.Walks.{append, rate_append, Reached, Best, closed_no_better, no_earning}

module _ {M : Type 0} (K : Kind M) (X : Laws K) where
  -- each lane turned round
  abbrev pub turned : LaneMap M → LaneMap M
  turned m u v = m v u

  abbrev backward : {m : LaneMap M} {u v : ℕ} → Trip K m u v → Trip K (turned m) v u
  backward stay = stay
  backward {m} {u} (go w s t) = append K X (backward t) (go u s stay)

  rate_backward : {m : LaneMap M} {u v : ℕ} (t : Trip K m u v) → rate K (backward t) ≡ rate K t
  unfolding rate
  rate_backward stay = refl
  rate_backward {m} {u} (go w s t) =
      rate_append K X (backward t) (go u s stay)
      ∙ X.join_commutative (rate K (backward t)) (K.join (m u w) K.still)
      ∙ ap (λ y. K.join y (rate K (backward t))) (join_still K X (m u w))
      ∙ ap (K.join (m u w)) (rate_backward t)

  reached_turned : (m : LaneMap M) (u v : ℕ) (r : M) → Reached K X m u v r → Reached K X (turned m) v u r
  reached_turned m u v r (inl e) = inl e
  reached_turned m u v r (inr (t, e)) = inr (backward t, rate_backward t ∙ e)

  pub best_turned : (m : LaneMap M) (u v : ℕ) (r : M) → Best K X m u v r → Best K X (turned m) v u r
  best_turned m u v r b = record {
    reached = reached_turned m u v r b.reached;
    unbeaten = λ t. subst_rate (rate_backward {m = turned m} t) (b.unbeaten (backward {m = turned m} t));
  }
    where
      subst_rate : {a c : M} → a ≡ c → NoWorse K r a → NoWorse K r c
      subst_rate e h = record { fact = ap (λ y. K.better y r) (sym e) ∙ h.fact }

  pub no_earning_turned : (m : LaneMap M) → NoEarning K m → NoEarning K (turned m)
  no_earning_turned m ne =
      no_earning K X (λ u t. record { fact = ap (λ y. K.better y K.still) (sym (rate_backward {m = turned m} t)) ∙ (closed_no_better K X ne u (backward {m = turned m} t)).fact })

  pub meeting_turned : (m : LaneMap M) (part : Bool → LaneMap M) (terminals : Bool → ℕ → Bool) (seam : Bool → ℕ) → Meeting K m part terminals seam → Meeting K (turned m) (λ c. turned (part c)) terminals seam
  meeting_turned m part terminals seam h = record {
    part_in_whole = λ c u v s. h.part_in_whole c v u s;
    whole_in_parts = λ u v s. h.whole_in_parts v u s;
    lane_from = λ c u v s. h.lane_to c v u s;
    lane_to = λ c u v s. h.lane_from c v u s;
    seam_in_parts = h.seam_in_parts;
    only_seam_shared = h.only_seam_shared;
  }
