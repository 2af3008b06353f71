-- What a push and a pop do to a stack over a lent slice.
-- Assumes nothing: a stack is the slice's values and the number of them in use, the last of which is on top.
use Rattle.std.specs.Prelude.{◌≡◌, ℕ, ◌+◌, ◌<◌, ◌≤◌, List, [], ◌∷◌, ◌++◌, length, take, Some, None, Ok, Err, Option, Result, slice_index_or, slice_set}

-- the elements in use, the top one last
abbrev pub held : {E : Type 0} → ℕ → List E → List E
held k xs = take k xs

-- x was put on top: one place was written, the one above the old top
pub record PutOn {E : Type 0} (k : ℕ) (xs : List E) (x : E) (k' : ℕ) (xs' : List E) : Type 0 where
  pub room : k < length xs
  pub longer : k' ≡ k + 1
  pub written : xs' ≡ slice_set xs k x
  pub above : held k' xs' ≡ held k xs ++ x ∷ []

-- the stack was full and is as it was
pub record Refused {E : Type 0} (k : ℕ) (xs : List E) (k' : ℕ) (xs' : List E) : Type 0 where
  pub full : length xs ≤ k
  pub same_size : k' ≡ k
  pub same : xs' ≡ xs

abbrev pub Pushed : {E F : Type 0} → Result Unit F → ℕ → List E → E → ℕ → List E → Type 0
Pushed (Ok _) k xs x k' xs' = PutOn k xs x k' xs'
Pushed (Err _) k xs x k' xs' = Refused k xs k' xs'

-- x was on top and was taken off; no place was written
pub record TakenOff {E : Type 0} (k : ℕ) (xs : List E) (x : E) (k' : ℕ) (xs' : List E) : Type 0 where
  pub shorter : k' + 1 ≡ k
  pub same : xs' ≡ xs
  pub stood : (d : E) → x ≡ slice_index_or xs k' d
  pub above : held k xs ≡ held k' xs' ++ x ∷ []

-- the stack was empty and is as it was
pub record Bare {E : Type 0} (k : ℕ) (xs : List E) (k' : ℕ) (xs' : List E) : Type 0 where
  pub none : k ≡ 0
  pub same_size : k' ≡ k
  pub same : xs' ≡ xs

abbrev pub Popped : {E : Type 0} → Option E → ℕ → List E → ℕ → List E → Type 0
Popped (Some x) k xs k' xs' = TakenOff k xs x k' xs'
Popped None k xs k' xs' = Bare k xs k' xs'
