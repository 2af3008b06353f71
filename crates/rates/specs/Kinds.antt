-- A kind of rate: a set of members with its operations, and the laws that they keep.
-- Assumes nothing.
use Rattle.std.specs.Prelude.{◌≡◌, ℕ, ◌+◌, ◌≤◌, Bool, true, false, T, ◌⊎◌, ◌≢◌}

-- The operations of a kind over its members.
-- still: the rate of staying put (the unit of joining). none: no rate at all (worst and absorbing).
-- join: the rate of one part of a trip after another (the semigroup operation).
-- better: the strict order. size: a whole number that bounds what a join can grow to.
-- lane: whether a member may be the rate of a single lane. limit: the size that no lane rate exceeds.
pub record Kind (M : Type 0) : Type 0 where
  pub still : M
  pub none : M
  pub join : M → M → M
  pub better : M → M → Bool
  pub size : M → ℕ
  pub lane : M → Bool
  pub limit : ℕ

-- a is no worse than b: b is not better than a.
pub record NoWorse {M : Type 0} (K : Kind M) (a b : M) : Type 0 where
  pub fact : K.better b a ≡ false

-- The values of a set that pass a test.
pub record Such {M : Type 0} (test : M → Bool) : Type 0 where
  pub value : M
  pub passes : T (test value)

-- A member other than none, by a test: it is better than none.
abbrev pub stands : {M : Type 0} → Kind M → M → Bool
stands K a = K.better a K.none

-- What every kind of rate keeps.
pub record Laws {M : Type 0} (K : Kind M) : Type 0 where
  pub join_associative : (a b c : M) → K.join (K.join a b) c ≡ K.join a (K.join b c)
  pub join_commutative : (a b : M) → K.join a b ≡ K.join b a
  pub still_joins_to_same : (a : M) → K.join K.still a ≡ a
  pub order_total : (a b : M) → NoWorse K a b ⊎ NoWorse K b a
  pub order_transitive : (a b c : M) → NoWorse K a b → NoWorse K b c → NoWorse K a c
  pub neither_better_same : (a b : M) → NoWorse K a b → NoWorse K b a → a ≡ b
  pub join_keeps_order : (a b c : M) → NoWorse K a b → NoWorse K (K.join a c) (K.join b c)
  pub none_worst : (a : M) → (a ≢ K.none) → K.better a K.none ≡ true
  pub still_not_none : K.still ≡ K.none → ⊥
  pub none_absorbs : (a : M) → K.join K.none a ≡ K.none
  pub others_never_join_to_none : (a b : M) → K.join a b ≡ K.none → (a ≡ K.none) ⊎ (b ≡ K.none)
  pub join_size : (a b : M) → K.size (K.join a b) ≤ K.size a + K.size b
  pub still_size : K.size K.still ≡ 0
  pub none_size : K.size K.none ≡ 0
  pub lane_rate_size : (a : M) → K.lane a ≡ true → K.size a ≤ K.limit
  pub limit_bounded : K.limit ≤ 1000000000
  pub lane_rate_not_none : (a : M) → K.lane a ≡ true → a ≢ K.none

-- What a strict kind keeps besides: a strict order stays strict under a join with a member other than none.
pub record Strictness {M : Type 0} (K : Kind M) : Type 0 where
  pub join_keeps_better : (a b c : M) → K.better a b ≡ true → (c ≢ K.none) → K.better (K.join a c) (K.join b c) ≡ true

-- The join of two values is exact while the sizes of what they mean add up to at most this.
abbrev pub exact_size : ℕ
exact_size = 1000000000000000
