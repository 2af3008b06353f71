-- The way down to the seam: it stops at a base of the piece whose weight is at most the limit and not far below it.
-- Assumes a weight that a base shares out between its children, up to c, and that what is heavy enough is a base of the piece.
use Rattle.std.proofs.Common.{◌≡◌, ℕ, zero, suc, ◌+◌, ◌*◌, ◌<◌, ◌≤◌, ltb, ap, inl, inr, ⊎_elim, arith}
use Rattle.std.proofs.lemmas.Bool.{cond_both, ltb-true, ltb-false}
use Rattle.pieces.specs.Sides.{Preorder, Inside, Child, right_of}
use Rattle.pieces.specs.Cuts.{left, right, heavier, descend}
use Rattle.pieces.proofs.Tree.{Fit, nested, child_inside, inside_fits, halves}

pub left_is : (u : ℕ) → u < 65535 → left u ≡ u + 1
left_is u h = omega arith

pub right_is : (len : ℕ → ℕ) (u : ℕ) → u < 65535 → right_of len u ≤ 65535 → right len u ≡ right_of len u
right_is len u h k = let e : len (left u) ≡ len (u + 1) = ap len (left_is u h) in omega arith

-- where the way down stops
pub record Found (len : ℕ → ℕ) (top : ℕ) (w : ℕ → ℕ) (c most : ℕ) (Clear : ℕ → Type 0) (v : ℕ) : Type 0 where
  pub inside : Inside len top v
  pub below : top < v
  pub clear : Clear v
  pub base : 2 ≤ len v
  pub light : w v ≤ most
  pub heavy : most + 1 ≤ c + 2 * w v

module _ (n : ℕ) (len : ℕ → ℕ) (pre : Preorder n len) (top : ℕ) (fit : Fit n len top) (w : ℕ → ℕ) (c most : ℕ) (Clear : ℕ → Type 0)
    (share : (u : ℕ) → Inside len top u → Clear u → 2 ≤ len u → w u ≤ c + (w (u + 1) + w (right_of len u)))
    (good : (u x : ℕ) → Inside len top u → Clear u → Child len u x → most + 1 ≤ c + 2 * w x → Clear x × (2 ≤ len x)) where
  -- the heavier child has at least half of what the children have
  half : (u : ℕ) → Inside len top u → 2 ≤ len u → Child len u (heavier len w u) × (w (u + 1) + w (right_of len u) ≤ 2 * w (heavier len w u))
  half u into base =
      let fu = inside_fits n len pre top u fit into in
      let s = halves n len pre u fu base in
      let small = pre.most in
      let el = left_is u (omega arith) in
      let er = right_is len u (omega arith) (omega arith) in
      cond_both (ltb (w (left u)) (w (right len u))) (right len u) (left u)
      (λ x. Child len u x × (w (u + 1) + w (right_of len u) ≤ 2 * w x))
      (λ t. (record { base = base; which = inr er }, omega (arith, ap w el, ap w er, ltb-true (w (left u)) (w (right len u)) t)))
      (λ t. (record { base = base; which = inl el }, omega (arith, ap w el, ap w er, ltb-false (w (left u)) (w (right len u)) t)))

  pub descends : (f u : ℕ) → len u ≤ f → Inside len top u → Clear u → 2 ≤ len u → (w u ≤ most → Found len top w c most Clear u) → Found len top w c most Clear (descend len w most f u)
  unfolding descend
  descends zero u b into clear base stop = absurd (omega arith)
  descends (suc f) u b into clear base stop =
      cond_both (ltb most (w u)) (descend len w most f (heavier len w u)) u (Found len top w c most Clear)
      (λ t.
      let above = ltb-true most (w u) t in
      let x = heavier len w u in
      let h = half u into base in
      let sh = share u into clear base in
      let fu = inside_fits n len pre top u fit into in
      let ci = child_inside n len pre u x fu h.0 in
      let heavy : most + 1 ≤ c + 2 * w x = omega (arith, h.1) in
      let g = good u x into clear h.0 heavy in
      let low = nested n len pre top u fit into in
      let xin : Inside len top x = (omega (arith, ci.2), omega (arith, ci.1, g.1)) in
      let s = halves n len pre u fu base in
      let shorter : len x ≤ f = ⊎_elim (λ e. omega (arith, ap len e)) (λ e. omega (arith, ap len e)) h.0.which in
      descends f x shorter xin g.0 g.1
      (λ l. record { inside = xin; below = omega (arith, ci.2); clear = g.0; base = g.1; light = l; heavy = heavy }))
      (λ t. stop (ltb-false most (w u) t))
