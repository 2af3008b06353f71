-- Sides in a row: they stand in the order of their indices, and none lies below another.
-- Assumes nothing: the lengths are any function of the index.
use Rattle.std.proofs.Common.{◌≡◌, ℕ, ◌+◌, ◌-◌, ◌*◌, ◌≤◌, Bool, true, ◌⊎◌, List, [], ◌∷◌, ◌++◌, length, sum_by, filter, sym, refl, ◌∙◌, subst, inl, inr, ⊎_elim, arith}
use Rattle.std.proofs.lemmas.List.Sums.{sum_by-cons}
use Rattle.std.proofs.lemmas.Bool.{cond_both}
use Rattle.records.specs.Few.{Among}

-- the sides hs are bases in a row; what lies below the first begins at a - 1 or later, and what lies below the last ends before e
abbrev pub Row : (ℕ → ℕ) → ℕ → List ℕ → ℕ → Type 0
Row len a [] e = a ≤ e
Row len a (h ∷ hs) e = (a ≤ h + 1) × (2 ≤ len h) × Row len (h + 2 * len h) hs e

-- a side's triangles, but for the one base that has none below
abbrev pub inner : (ℕ → ℕ) → ℕ → ℕ
inner len h = len h - 1

module _ (len : ℕ → ℕ) where
  pub row_ends : (a : ℕ) (hs : List ℕ) (e : ℕ) → Row len a hs e → a ≤ e
  row_ends a [] e r = r
  row_ends a (h ∷ hs) e r = omega (arith, row_ends (h + 2 * len h) hs e r.2)

  pub row_at : (a : ℕ) (hs : List ℕ) (e h : ℕ) → Row len a hs e → Among h hs → (a ≤ h + 1) × (2 ≤ len h) × (h + 2 * len h ≤ e)
  row_at a [] e h r m = absurd m
  row_at a (x ∷ xs) e h r m =
      ⊎_elim
      (λ q. subst (λ y. (a ≤ y + 1) × (2 ≤ len y) × (y + 2 * len y ≤ e)) (sym q) (r.0, r.1, row_ends (x + 2 * len x) xs e r.2))
      (λ q. let s = row_at (x + 2 * len x) xs e h r.2 q in (omega arith, s.1, s.2)) m

  -- two sides of a row: one is the other, or one ends before the other begins
  pub row_apart : (a : ℕ) (hs : List ℕ) (e h k : ℕ) → Row len a hs e → Among h hs → Among k hs → (h ≡ k) ⊎ ((h + 2 * len h ≤ k + 1) ⊎ (k + 2 * len k ≤ h + 1))
  row_apart a [] e h k r m o = absurd m
  row_apart a (x ∷ xs) e h k r m o =
      ⊎_elim
      (λ p. ⊎_elim (λ q. inl (p ∙ sym q))
      (λ q. let s = row_at (x + 2 * len x) xs e k r.2 q in inr (inl (subst (λ y. y + 2 * len y ≤ k + 1) (sym p) s.0))) o)
      (λ p. ⊎_elim
      (λ q. let s = row_at (x + 2 * len x) xs e h r.2 p in inr (inr (subst (λ y. y + 2 * len y ≤ h + 1) (sym q) s.0)))
      (λ q. row_apart (x + 2 * len x) xs e h k r.2 p q) o)
      m

  pub row_sum : (a : ℕ) (hs : List ℕ) (e : ℕ) → Row len a hs e → a + 2 * sum_by (inner len) hs + length hs ≤ e
  row_sum a [] e r = omega arith
  row_sum a (h ∷ hs) e r = omega (arith, sum_by-cons (inner len) h hs, row_sum (h + 2 * len h) hs e r.2)

  -- those of a row that pass a test are a row, between any bounds that they keep
  pub row_kept : (f : ℕ → Bool) (a : ℕ) (hs : List ℕ) (e low high : ℕ) → Row len a hs e → ((h : ℕ) → Among h hs → f h ≡ true → (low ≤ h + 1) × (h + 2 * len h ≤ high)) → low ≤ high → Row len low (filter f hs) high
  row_kept f a [] e low high r b l = l
  row_kept f a (h ∷ hs) e low high r b l =
      cond_both (f h) (h ∷ filter f hs) (filter f hs) (λ xs. Row len low xs high)
      (λ t.
      let here = b h (inl refl) t in (
        here.0,
        r.1,
        row_kept f (h + 2 * len h) hs e (h + 2 * len h) high r.2
            (λ k m u. ((row_at (h + 2 * len h) hs e k r.2 m).0, (b k (inr m) u).1)) here.1,
      ))
      (λ t. row_kept f (h + 2 * len h) hs e low high r.2 (λ k m u. b k (inr m) u) l)

  pub row_join : (a : ℕ) (xs : List ℕ) (v : ℕ) (ys : List ℕ) (e : ℕ) → Row len a xs (v + 1) → 2 ≤ len v → Row len (v + 2 * len v) ys e → Row len a (xs ++ v ∷ ys) e
  row_join a [] v ys e r b s = (r, b, s)
  row_join a (x ∷ xs) v ys e r b s = (r.0, r.1, row_join (x + 2 * len x) xs v ys e r.2 b s)
