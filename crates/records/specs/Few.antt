-- Up to eight numbers in a record: which they are, and one more put at the end.
-- Assumes nothing: a count above eight counts as eight.
use Rattle.std.specs.Prelude.{◌≡◌, ℕ, ◌+◌, ◌-◌, ◌<◌, ◌≤◌, cond, ◌||◌, ◌⊎◌, List, [], ◌∷◌, length, take, drop, replicate, Some, None, Option, ◌==◌, ◌≢◌, nat_lt, slice_index, slice_index_or, slice_set}
use Rattle.records.specs.declared.Few.{Few}

-- the numbers that are in use
abbrev pub listed : Few → List ℕ
listed f = take f.count f.at

abbrev pub none : Few
none = record { count = 0; at = replicate 8 0 }

-- one more at the end; a full record stays as it is
abbrev pub added : Few → ℕ → Few
added f x = cond (nat_lt f.count 8) (record { count = f.count + 1; at = slice_set f.at f.count x }) f

-- one more at the end if it is above the last
abbrev pub raised : Few → ℕ → Few
raised f x = cond (f.count == 0 || nat_lt (slice_index f.at (f.count - 1)) x) (added f x) f

-- x is one of the numbers
abbrev pub Among : ℕ → List ℕ → Type 0
Among x [] = ⊥
Among x (y ∷ ys) = (x ≡ y) ⊎ Among x ys

-- the numbers rise, and the first is at least a
abbrev pub RisingFrom : ℕ → List ℕ → Type 0
RisingFrom a [] = Unit {0}
RisingFrom a (x ∷ xs) = (a ≤ x) × RisingFrom (x + 1) xs

-- the places that are not in use hold 0
pub record Pinned (f : Few) : Type 0 where
  pub room : f.count ≤ 8
  pub places : length f.at ≡ 8
  pub rest : drop f.count f.at ≡ replicate (8 - f.count) 0

-- k is the first place where x stands in the list
pub record FirstPlace (xs : List ℕ) (x k : ℕ) : Type 0 where
  pub inside : k < length xs
  pub stands : slice_index_or xs k 0 ≡ x
  pub first : (j : ℕ) → j < k → slice_index xs j ≢ x

-- the place of x in the list, or none where it is not there
abbrev pub Position : List ℕ → ℕ → Option ℕ → Type 0
Position xs x (Some k) = FirstPlace xs x k
Position xs x None = Among x xs → ⊥
