-- Sides below sides: a walk down from a side, how the index intervals of two sides lie, and the parent of a side.
-- Assumes that the lengths are those of a filled ring in preorder.
use Rattle.std.proofs.Common.{◌≡◌, ℕ, zero, suc, ◌+◌, ◌*◌, ◌<◌, ◌≤◌, ◌⊎◌, sym, refl, subst, inl, inr, ⊎_elim, arith}
use Rattle.std.proofs.lemmas.Bool.{cases_lt, cases_eq}
use Rattle.pieces.specs.Sides.{Preorder, Inside, Child, right_of}

-- the sides at or below the side i are among the 2n - 3
abbrev pub Fit : ℕ → (ℕ → ℕ) → ℕ → Type 0
Fit n len i = i + 2 * len i + 2 ≤ 2 * n

module _ (n : ℕ) (len : ℕ → ℕ) (pre : Preorder n len) where
  pub root_fits : Fit n len 0
  root_fits = omega (arith, pre.root)

  pub halves : (i : ℕ) → Fit n len i → 2 ≤ len i → (1 ≤ len (i + 1)) × (1 ≤ len (right_of len i)) × (len i ≡ len (i + 1) + len (right_of len i))
  halves i fit base = pre.splits i (omega arith) base

  pub left_fits : (i : ℕ) → Fit n len i → 2 ≤ len i → Fit n len (i + 1)
  left_fits i fit base = let s = halves i fit base in omega arith

  pub right_fits : (i : ℕ) → Fit n len i → 2 ≤ len i → Fit n len (right_of len i)
  right_fits i fit base = let s = halves i fit base in omega arith

  -- What holds of a side and passes from each base to its two children holds of every side below.
  pub walk : (P : ℕ → Type 0) → ((i : ℕ) → Fit n len i → 2 ≤ len i → P i → P (i + 1) × P (right_of len i)) → (f i j : ℕ) → len i ≤ f → Fit n len i → P i → Inside len i j → P j
  walk P step zero i j b fit p (into) = absurd (omega arith)
  walk P step (suc f) i j b fit p into =
      ⊎_elim (λ e. subst P e p)
      (λ ne.
      let base : 2 ≤ len i = omega arith in
      let s = halves i fit base in
      let down = step i fit base p in
      ⊎_elim
      (λ l. walk P step f (i + 1) j (omega arith) (left_fits i fit base) down.0 (omega arith))
      (λ l. walk P step f (right_of len i) j (omega arith) (right_fits i fit base) down.1 (omega arith))
      (cases_lt j (right_of len i)))
      (cases_eq i j)

  -- the sides below a side below i are below i
  pub nested : (i j : ℕ) → Fit n len i → Inside len i j → j + 2 * len j ≤ i + 2 * len i
  nested i j fit into =
      walk (λ k. k + 2 * len k ≤ i + 2 * len i)
      (λ k fk base p. let s = halves k fk base in (omega arith, omega arith))
      (len i) i j (omega arith) fit (omega arith) into

  pub inside_fits : (i j : ℕ) → Fit n len i → Inside len i j → Fit n len j
  inside_fits i j fit into = let h = nested i j fit into in omega arith

  pub inside_rises : (i j : ℕ) → Fit n len i → Inside len i j → 1 ≤ len j
  inside_rises i j fit into = pre.rises j (omega arith)

  pub inside_trans : (i j k : ℕ) → Fit n len i → Inside len i j → Inside len j k → Inside len i k
  inside_trans i j k fit a b = let h = nested i j fit a in (omega arith, omega arith)

  -- two sides: one lies below the other, or all below the one stand before all below the other
  pub lie : (i j : ℕ) → Inside len i j ⊎ (Inside len j i ⊎ ((i + 2 * len i ≤ j + 1) ⊎ (j + 2 * len j ≤ i + 1)))
  lie i j =
      ⊎_elim
      (λ a. ⊎_elim (λ b. inr (inl (omega arith, b))) (λ b. inr (inr (inr b))) (cases_lt (i + 1) (j + 2 * len j)))
      (λ a. ⊎_elim (λ b. inl (a, b)) (λ b. inr (inr (inl b))) (cases_lt (j + 1) (i + 2 * len i)))
      (cases_lt j i)

  -- every side below i but i itself has a parent there
  pub parent : (i j : ℕ) → Fit n len i → Inside len i j → (i ≡ j → ⊥) → (b : ℕ) × (Inside len i b × Child len b j)
  parent i j fit into other =
      ⊎_elim (λ e. absurd (other e)) (λ c. c)
      (walk (λ k. (i ≤ k) × (k + 2 * len k ≤ i + 2 * len i) × ((i ≡ k) ⊎ ((b : ℕ) × (Inside len i b × Child len b k))))
      (λ k fk base p.
      let s = halves k fk base in
      let here : Inside len i k = (p.0, omega (arith, p.1)) in (
        (omega (arith, p.0), omega (arith, p.1), inr (k, (here, record { base = base; which = inl refl }))),
        (omega (arith, p.0), omega (arith, p.1), inr (k, (here, record { base = base; which = inr refl }))),
      ))
      (len i) i j (omega arith) fit (omega arith, omega arith, inl refl) into).2

  pub child_inside : (b j : ℕ) → Fit n len b → Child len b j → Inside len b j × (j + 2 * len j ≤ b + 2 * len b) × (b < j)
  child_inside b j fit c =
      let s = halves b fit c.base in
      ⊎_elim (λ e. subst (λ k. Inside len b k × (k + 2 * len k ≤ b + 2 * len b) × (b < k)) (sym e) ((omega arith, omega arith), omega arith, omega arith))
      (λ e. subst (λ k. Inside len b k × (k + 2 * len k ≤ b + 2 * len b) × (b < k)) (sym e) ((omega arith, omega arith), omega arith, omega arith))
      c.which

  -- A side with one of its parent's children below it is that child, or has the parent below it: between a base and its left
  -- child no side stands, and what stands between the left child and the right one lies below the left one.
  pub parent_inside : (b j h : ℕ) → Fit n len b → Child len b j → Inside len h j → (h ≡ j) ⊎ Inside len h b
  parent_inside b j h fit c into =
      let s = halves b fit c.base in
      let d = child_inside b j fit c in
      ⊎_elim
      (λ l. ⊎_elim (λ e. let e' : h ≡ b + 1 = omega arith in inl (omega (arith, d.0)))
      (λ e. ⊎_elim
      (λ m. let low : Inside len (b + 1) h = (omega arith, omega arith) in
      let q = nested (b + 1) h (left_fits b fit c.base) low in absurd (omega arith))
      (λ m. inl (omega arith))
      (cases_lt h (right_of len b)))
      c.which)
      (λ l. inr (l, omega (arith, d.2)))
      (cases_lt b h)
