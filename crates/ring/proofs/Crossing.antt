-- The crossing test: one end of the other link between the ends of the first, the other end beyond them.
-- Assumes nothing.
use Rattle.std.proofs.Common.{◌≡◌, ℕ, ◌<◌, ◌≤◌, min, max, Bool, ◌&&◌, ◌||◌, ◌⊎◌, Decides, refl, inl, inr, ⊎_elim, arith}
use Rattle.std.proofs.lemmas.Bool.{cases_lt}
use Rattle.std.proofs.lemmas.Bool.Decides.{Decides-or, Decides-and, Decides-like}
use Rattle.trips.specs.Links.{Ends, Named, Straddles, Cross}

-- The ends of a link may be named the lower and the higher.
pub named_in_order : (e : Ends) (a b : ℕ) → a ≡ min e.from e.to → b ≡ max e.from e.to → Named e a b
named_in_order e a b p q =
    ⊎_elim
    (λ (h : e.from < e.to). inl (omega arith, omega arith))
    (λ (h : e.to ≤ e.from). inr (omega arith, omega arith))
    (cases_lt e.from e.to)

-- One terminal lies between a and b, the other beyond them.
abbrev pub Parts : ℕ → ℕ → ℕ → ℕ → Type 0
Parts a b x y = ((a < x) × (x < b)) × ((y < a) ⊎ (b < y))

module _ (one other : Ends) (a b : ℕ) (a_is : a ≡ min one.from one.to) (b_is : b ≡ max one.from one.to) where
  -- With x between a and b, and y beyond: the first link straddles the second if y is after b, and the second the first if before a.
  cross_from : (x y : ℕ) → Named other x y → Parts a b x y → Cross one other
  cross_from x y n w =
      let p = w.0 in
      let l = named_in_order one a b a_is b_is in
      ⊎_elim
      (λ (h : y < a). inr (record { a = y; b = x; c = a; d = b; ends = swapped other x y n; other_ends = l; a_c = h; c_b = p.0; b_d = p.1 }))
      (λ (h : b < y). inl (record { a = a; b = b; c = x; d = y; ends = l; other_ends = n; a_c = p.0; c_b = p.1; b_d = h }))
      w.1
    where
      swapped : (e : Ends) (u v : ℕ) → Named e u v → Named e v u
      swapped e u v m = ⊎_elim (λ (h : (e.from ≡ u) × (e.to ≡ v)). inr h) (λ (h : (e.from ≡ v) × (e.to ≡ u)). inl h) m

  parts_from : Cross one other → Parts a b other.from other.to ⊎ Parts a b other.to other.from
  parts_from w =
      ⊎_elim
      (λ (s : Straddles one other).
      let e = s.ends in
      ⊎_elim
      (λ (f : (other.from ≡ s.c) × (other.to ≡ s.d)). let p = s.a_c in let q = s.c_b in let r = s.b_d in inl ((omega arith, omega arith), inr (omega arith)))
      (λ (f : (other.from ≡ s.d) × (other.to ≡ s.c)). let p = s.a_c in let q = s.c_b in let r = s.b_d in inr ((omega arith, omega arith), inr (omega arith)))
      s.other_ends)
      (λ (s : Straddles other one).
      let e = s.other_ends in
      ⊎_elim
      (λ (f : (other.from ≡ s.a) × (other.to ≡ s.b)). let p = s.a_c in let q = s.c_b in let r = s.b_d in inr ((omega arith, omega arith), inl (omega arith)))
      (λ (f : (other.from ≡ s.b) × (other.to ≡ s.a)). let p = s.a_c in let q = s.c_b in let r = s.b_d in inl ((omega arith, omega arith), inl (omega arith)))
      s.ends)
      w

  pub decides_cross : (bf of bt ot : Bool) → Decides bf ((a < other.from) × (other.from < b)) → Decides ot ((other.to < a) ⊎ (b < other.to))
      → Decides of ((other.from < a) ⊎ (b < other.from)) → Decides bt ((a < other.to) × (other.to < b))
      → Decides ((bf && ot) || (of && bt)) (Cross one other)
  decides_cross bf of bt ot p q r s =
      Decides-like ((bf && ot) || (of && bt))
      (⊎_elim
      (λ (w : ((a < other.from) × (other.from < b)) × ((other.to < a) ⊎ (b < other.to))). cross_from other.from other.to (inl (refl, refl)) w)
      (λ (w : ((other.from < a) ⊎ (b < other.from)) × ((a < other.to) × (other.to < b))). cross_from other.to other.from (inr (refl, refl)) (w.1, w.0)))
      (λ w. ⊎_elim
      (λ (h : Parts a b other.from other.to). inl h)
      (λ (h : Parts a b other.to other.from). inr (h.1, h.0))
      (parts_from w))
      (Decides-or (bf && ot) (of && bt) (Decides-and bf ot p q) (Decides-and of bt r s))
