-- Lists of numbers: being among them, those that pass a test, and sums over them.
-- Assumes nothing.
use Rattle.std.proofs.Common.{◌≡◌, ℕ, ◌+◌, ◌≤◌, Bool, true, false, cond, ◌⊎◌, List, [], ◌∷◌, ◌++◌, length, sum_by, filter, sym, refl, ap, ◌∙◌, subst, inl, inr, ⊎_elim, arith}
use Rattle.std.proofs.lemmas.List.Sums.{sum_by-cons}
use Rattle.std.proofs.lemmas.Bool.{cases_Bool, cond-true, cond-false, cond_both}
use Rattle.records.specs.Few.{Among}

pub among_kept : (f : ℕ → Bool) (xs : List ℕ) (x : ℕ) → Among x (filter f xs) → Among x xs × (f x ≡ true)
among_kept f [] x h = absurd h
among_kept f (y ∷ ys) x h =
    ⊎_elim
    (λ t. ⊎_elim (λ e. (inl e, subst (λ z. f z ≡ true) (sym e) t)) (λ m. let r = among_kept f ys x m in (inr r.0, r.1))
    (subst (λ zs. Among x zs) (cond-true (f y) (y ∷ filter f ys) (filter f ys) t) h))
    (λ t. let r = among_kept f ys x (subst (λ zs. Among x zs) (cond-false (f y) (y ∷ filter f ys) (filter f ys) t) h) in (inr r.0, r.1))
    (cases_Bool (f y))

pub kept_among : (f : ℕ → Bool) (xs : List ℕ) (x : ℕ) → Among x xs → f x ≡ true → Among x (filter f xs)
kept_among f [] x h t = absurd h
kept_among f (y ∷ ys) x h t =
    cond_both (f y) (y ∷ filter f ys) (filter f ys) (λ zs. Among x zs)
    (λ _. ⊎_elim (λ e. inl e) (λ m. inr (kept_among f ys x m t)) h)
    (λ no'. ⊎_elim (λ e. let z : true ≡ false = sym t ∙ ap f e ∙ no' in absurd (differs z)) (λ m. kept_among f ys x m t) h)
  where
    differs : true ≡ false → ⊥
    differs z = let w : ◌≡◌ {A = ℕ} 0 1 = cc in omega arith

pub among_left : (xs ys : List ℕ) (x : ℕ) → Among x xs → Among x (xs ++ ys)
among_left [] ys x h = absurd h
among_left (z ∷ zs) ys x h = ⊎_elim (λ e. inl e) (λ m. inr (among_left zs ys x m)) h

pub among_right : (xs ys : List ℕ) (x : ℕ) → Among x ys → Among x (xs ++ ys)
among_right [] ys x h = h
among_right (z ∷ zs) ys x h = inr (among_right zs ys x h)

pub among_either : (xs ys : List ℕ) (x : ℕ) → Among x (xs ++ ys) → Among x xs ⊎ Among x ys
among_either [] ys x h = inr h
among_either (z ∷ zs) ys x h = ⊎_elim (λ e. inl (inl e)) (λ m. ⊎_elim (λ a. inl (inr a)) (λ b. inr b) (among_either zs ys x m)) h

-- the sum over those that pass
pub sum_kept : (f : ℕ → Bool) (w : ℕ → ℕ) (xs : List ℕ) → sum_by (λ x. cond (f x) (w x) 0) xs ≡ sum_by w (filter f xs)
sum_kept f w [] = refl
sum_kept f w (y ∷ ys) =
    sum_by-cons (λ x. cond (f x) (w x) 0) y ys
    ∙ ap (λ m. cond (f y) (w y) 0 + m) (sum_kept f w ys)
    ∙ ⊎_elim
    (λ t. omega (arith, cond-true (f y) (w y) 0 t, ap (sum_by w) (cond-true (f y) (y ∷ filter f ys) (filter f ys) t), sum_by-cons w y (filter f ys)))
    (λ t. omega (arith, cond-false (f y) (w y) 0 t, ap (sum_by w) (cond-false (f y) (y ∷ filter f ys) (filter f ys) t)))
    (cases_Bool (f y))

pub sum_ones : (xs : List ℕ) → sum_by (λ _. 1) xs ≡ length xs
sum_ones [] = refl
sum_ones (y ∷ ys) = omega (arith, sum_by-cons (λ _. 1) y ys, sum_ones ys)

pub sum_add : (a b c : ℕ → ℕ) (xs : List ℕ) → ((x : ℕ) → Among x xs → a x ≡ b x + c x) → sum_by a xs ≡ sum_by b xs + sum_by c xs
sum_add a b c [] h = refl
sum_add a b c (y ∷ ys) h =
    omega (arith, sum_by-cons a y ys, sum_by-cons b y ys, sum_by-cons c y ys, h y (inl refl), sum_add a b c ys (λ x m. h x (inr m)))

pub sum_same : (a b : ℕ → ℕ) (xs : List ℕ) → ((x : ℕ) → Among x xs → a x ≡ b x) → sum_by a xs ≡ sum_by b xs
sum_same a b [] h = refl
sum_same a b (y ∷ ys) h = omega (arith, sum_by-cons a y ys, sum_by-cons b y ys, h y (inl refl), sum_same a b ys (λ x m. h x (inr m)))

pub sum_has : (w : ℕ → ℕ) (xs : List ℕ) (x : ℕ) → Among x xs → w x ≤ sum_by w xs
sum_has w [] x h = absurd h
sum_has w (y ∷ ys) x h =
    ⊎_elim (λ e. omega (arith, sum_by-cons w y ys, ap w e)) (λ m. omega (arith, sum_by-cons w y ys, sum_has w ys x m)) h

pub sum_each : (w : ℕ → ℕ) (xs : List ℕ) → ((x : ℕ) → Among x xs → 1 ≤ w x) → length xs ≤ sum_by w xs
sum_each w [] h = omega arith
sum_each w (y ∷ ys) h = omega (arith, sum_by-cons w y ys, h y (inl refl), sum_each w ys (λ x m. h x (inr m)))
