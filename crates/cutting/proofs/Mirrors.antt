-- Single steps of the cutting functions, on plain values.
-- Assumes nothing.
use Rattle.std.proofs.Common.{◌≡◌, ℕ, zero, suc, ◌+◌, ◌<◌, ◌≤◌, Bool, true, false, cond, ltb, List, [], ◌∷◌, length, filter, sum_by, sym, refl, ap, ◌∙◌, arith}
use Rattle.std.proofs.lemmas.List.Sums.{sum_by-cons, length-filter, count_by-le-length}
use Rattle.std.proofs.lemmas.Bool.{cond-true, cond-false, lt-ltb, le-ltb}
use Rattle.pieces.specs.Cuts.{left, right, heavier, descend}

module _ (len w : ℕ → ℕ) (v l r wl wr : ℕ) (el : l ≡ left v) (er : r ≡ right len v) (ewl : wl ≡ w l) (ewr : wr ≡ w r) where
  pub right_heavier : wl < wr → r ≡ heavier len w v
  right_heavier lt =
      er ∙ sym (cond-true (ltb (w (left v)) (w (right len v))) (right len v) (left v)
      (lt-ltb (w (left v)) (w (right len v)) (omega (arith, ap w el, ap w er))))

  pub left_heavier : wr ≤ wl → l ≡ heavier len w v
  left_heavier le =
      el ∙ sym (cond-false (ltb (w (left v)) (w (right len v))) (right len v) (left v)
      (le-ltb (w (left v)) (w (right len v)) (omega (arith, ap w el, ap w er))))

module _ (len w : ℕ → ℕ) (most v : ℕ) where
  pub descend_stops : (f : ℕ) → w v ≤ most → descend len w most f v ≡ v
  unfolding descend
  descend_stops zero l = refl
  descend_stops (suc f) l = cond-false (ltb most (w v)) (descend len w most f (heavier len w v)) v (le-ltb most (w v) l)

  pub descend_goes : (f : ℕ) → most < w v → descend len w most (suc f) v ≡ descend len w most f (heavier len w v)
  unfolding descend
  descend_goes f l = cond-true (ltb most (w v)) (descend len w most f (heavier len w v)) v (lt-ltb most (w v) l)

  pub descend_none : descend len w most 0 v ≡ v
  unfolding descend
  descend_none = refl

-- a sum over the numbers that pass a test
pub sum_by-filter : (w : ℕ → ℕ) (p : ℕ → Bool) (xs : List ℕ) → sum_by w (filter p xs) ≡ sum_by (λ x. cond (p x) (w x) 0) xs
sum_by-filter w p [] = refl
sum_by-filter w p (x ∷ xs) =
    first (p x) ∙ ap (λ n. cond (p x) (w x) 0 + n) (sum_by-filter w p xs) ∙ sym (sum_by-cons (λ y. cond (p y) (w y) 0) x xs)
  where
    first : (b : Bool) → sum_by w (cond b (x ∷ filter p xs) (filter p xs)) ≡ cond b (w x) 0 + sum_by w (filter p xs)
    first true = sum_by-cons w x (filter p xs)
    first false = omega arith

-- no more numbers pass a test than there are
pub length-filter-le : (p : ℕ → Bool) (xs : List ℕ) → length (filter p xs) ≤ length xs
length-filter-le p xs = let e = length-filter p xs in let l = count_by-le-length p xs in omega arith
