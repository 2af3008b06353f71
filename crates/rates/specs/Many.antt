-- Several rates: the better of two, all of a list joined in order, and the best of a list.
-- Assumes nothing; that the best is one member asks for the laws.
use Rattle.std.specs.Prelude.{◌≡◌, ℕ, ◌+◌, ◌<◌, true, cond, ◌⊎◌, List, [], ◌∷◌, slice_index_or}
use Rattle.std.specs.List.{ContainsAt, AllByRecursion}
use Rattle.rates.specs.Kinds.{Kind, NoWorse}

module _ {M : Type 0} (K : Kind M) where
  -- the better of two, the first where neither is better
  abbrev pub better_of : M → M → M
  better_of a b = cond (K.better b a) b a

  -- all members of a list joined, one after the other; of none of them it is still
  abbrev pub joined_all : List M → M
  joined_all [] = K.still
  joined_all (a ∷ rest) = K.join a (joined_all rest)

  -- the sizes of a list's members, added up
  abbrev pub sizes : List M → ℕ
  sizes [] = 0
  sizes (a ∷ rest) = K.size a + sizes rest

  -- b is the best of a list: one of its members, or none where it is empty, and no member is better
  pub record BestOf (list : List M) (b : M) : Type 0 where
    pub among : ContainsAt list b ⊎ ((list ≡ []) × (b ≡ K.none))
    pub none_better : AllByRecursion (NoWorse K b) list

  -- of the first n places of a list, k is the first at which their best stands
  pub record FirstBest (list : List M) (n k : ℕ) : Type 0 where
    pub within : k < n
    pub none_better : (j : ℕ) → j < n → NoWorse K (slice_index_or list k K.none) (slice_index_or list j K.none)
    pub earlier_worse : (j : ℕ) → j < k → K.better (slice_index_or list k K.none) (slice_index_or list j K.none) ≡ true
