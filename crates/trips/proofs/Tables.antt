-- A table that no lane can better, and whose entries are each none or some trip's rate, has the best rates.
-- Assumes the laws of the kind.
use Rattle.std.proofs.Common.{ℕ, ◌<◌, sym, ◌∙◌, subst}
use Rattle.rates.specs.Kinds.{Kind, Laws, NoWorse}
use Rattle.rates.specs.Order.{le_trans, le_from, join_left}
use Rattle.trips.specs.Trips.{LaneMap, Standing, Trip, rate, Over}
use Rattle.trips.specs.Trips.Trip.{stay, go}
use Rattle.trips.specs.Theorems.{Relaxed}
use Rattle.trips.proofs.Walks.{Unbeaten}

module _ {M : Type 0} (K : Kind M) (X : Laws K) where
  -- along a trip from v, the entry for its end is no worse than the entry for v joined with the trip's rate
  along : (m : LaneMap M) (n : ℕ) (row : ℕ → M) → Over K n m → ((v w : ℕ) → v < n → w < n → Standing K m v w → NoWorse K (row w) (K.join (row v) (m v w))) → {v w : ℕ} → v < n → (t : Trip K m v w) → NoWorse K (row w) (K.join (row v) (rate K t))
  unfolding rate
  along m n row o h {v} k stay =
      le_from K X (row v) (K.join (row v) K.still) (sym (X.join_commutative (row v) K.still ∙ X.still_joins_to_same (row v)))
  along m n row o h {v} {w} k (go x s t) =
      le_trans K X (along m n row o h (o v x s).1 t)
      (le_trans K X (join_left K X (rate K t) (h v x k (o v x s).1 s))
      (le_from K X (K.join (K.join (row v) (m v x)) (rate K t)) (K.join (row v) (K.join (m v x) (rate K t))) (X.join_associative (row v) (m v x) (rate K t))))

  -- a row that no lane can better is not beaten by any trip
  pub row_unbeaten : (m : LaneMap M) (n : ℕ) (row : ℕ → M) → Over K n m → ((v w : ℕ) → v < n → w < n → Standing K m v w → NoWorse K (row w) (K.join (row v) (m v w))) → (u : ℕ) → u < n → NoWorse K (row u) K.still → (w : ℕ) → Unbeaten K X m u w (row w)
  row_unbeaten m n row o h u l z w t =
      le_trans K X (along m n row o h l t)
      (subst (λ y. NoWorse K (K.join (row u) (rate K t)) y) (X.still_joins_to_same (rate K t)) (join_left K X (rate K t) z))

  pub relaxed_unbeaten : (m : LaneMap M) (n : ℕ) (table : ℕ → ℕ → M) → Over K n m → Relaxed K m n table → (u w : ℕ) → u < n → Unbeaten K X m u w (table u w)
  relaxed_unbeaten m n table o h u w l =
      row_unbeaten m n (table u) o (λ v w p q s. h.lane_betters_none u v w l p q s) u l (h.staying_no_better u l) w
