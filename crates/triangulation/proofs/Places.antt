-- Where subtrees stand in a preorder: bounds, the side at a place, children, parents, one to a place.
-- Assumes that the tree spans its polygon.
use Rattle.std.proofs.Common.{◌≡◌, ℕ, zero, suc, ◌+◌, ◌-◌, ◌*◌, ◌<◌, ◌≤◌, ◌⊎◌, length, get_or, sym, refl, ap, ◌∙◌, subst, inl, inr, ⊎_elim, arith, length-append}
use Rattle.std.proofs.lemmas.List.{get_or_append_left, get_or-append_right}
use Rattle.std.proofs.lemmas.Bool.{cases_lt}
use Rattle.trips.specs.Links.{Ends}
use Rattle.triangulation.specs.Trees.{Tree, leaf, node, Spans, side, preorder, Stands, here, left, right, Before}

-- A polygon has at least one side.
pub spans_rises : (t : Tree) (a b : ℕ) → Spans t a b → a < b
spans_rises leaf a b e = omega arith
spans_rises (node c l r) a b s =
    let p = spans_rises l a c s.0 in
    let q = spans_rises r c b s.1 in
    omega arith

-- The polygon from a to b has 2 (b - a) - 1 sides.
pub length_preorder : (t : Tree) (a b : ℕ) → Spans t a b → length (preorder t a b) + 1 + 2 * a ≡ 2 * b
length_preorder leaf a b e = omega arith
length_preorder (node c l r) a b s =
    let p = length_preorder l a c s.0 in
    let q = length_preorder r c b s.1 in
    let e = length-append (preorder l a c) (preorder r c b) in
    omega arith

-- What holds of the tree at its own place holds of what stands here.
at_here : (P : Tree → ℕ → ℕ → Type 0) (u t : Tree) (x a y b : ℕ) → u ≡ t → x ≡ a → y ≡ b → P t a b → P u x y
at_here P u t x a y b e f g p =
    subst (λ (v : Tree). P v x y) (sym e) (subst (λ (z : ℕ). P t z y) (sym f) (subst (λ (z : ℕ). P t a z) (sym g) p))

pub stands_spans : {u : Tree} {x y j : ℕ} {t : Tree} {a b i : ℕ} → Stands u x y j t a b i → Spans t a b → Spans u x y
stands_spans {u} {x} {y} (here {t = t} {a = a} {b = b} e f g h) s = at_here Spans u t x a y b e f g s
stands_spans (left w) s = stands_spans w s.0
stands_spans (right w) s = stands_spans w s.1

-- A subtree's base lies in the polygon, and its places lie in the tree's.
pub record Within (x y j a b i : ℕ) : Type 0 where
  pub low : a ≤ x
  pub rises : x < y
  pub high : y ≤ b
  pub from_start : i ≤ j
  pub to_end : j + 2 * y + 2 * a ≤ i + 2 * b + 2 * x

pub stands_within : {u : Tree} {x y j : ℕ} {t : Tree} {a b i : ℕ} → Stands u x y j t a b i → Spans t a b → Within x y j a b i
stands_within (here {t = t} {a = a} {b = b} e f g h) s = let p = spans_rises t a b s in omega arith
stands_within (left {c = c} {l = l} {r = r} {a = a} {b = b} {i = i} w) s =
    let p = stands_within w s.0 in
    let q = spans_rises r c b s.1 in
    omega arith
stands_within (right {c = c} {l = l} {r = r} {a = a} {b = b} {i = i} w) s =
    let p = stands_within w s.1 in
    let q = spans_rises l a c s.0 in
    omega arith

first_side : (t : Tree) (a b : ℕ) (d : Ends) → get_or (preorder t a b) 0 d ≡ side a b
first_side leaf a b d = refl
first_side (node c l r) a b d = refl

-- The side at a place is the base of what stands there.
pub stands_side : {u : Tree} {x y j : ℕ} {t : Tree} {a b i : ℕ} → Stands u x y j t a b i → Spans t a b → (k : ℕ) (d : Ends) → k + i ≡ j → get_or (preorder t a b) k d ≡ side x y
stands_side {u} {x} {y} {j} (here {t = t} {a = a} {b = b} {i = i} e f g h) s k d m =
    let z : k ≡ 0 = omega arith in
    ap (λ (n : ℕ). get_or (preorder t a b) n d) z ∙ first_side t a b d ∙ (ap (λ (n : ℕ). side n b) (sym f) ∙ ap (λ (n : ℕ). side x n) (sym g))
stands_side (left w) s zero d m = let p = stands_within w s.0 in absurd (omega arith)
stands_side {u} {x} {y} {j} (left {c = c} {l = l} {r = r} {a = a} {b = b} {i = i} w) s (suc k) d m =
    let p = stands_within w s.0 in
    let n = length_preorder l a c s.0 in
    get_or_append_left (preorder l a c) (preorder r c b) d k (omega arith) ∙ stands_side w s.0 k d (omega arith)
stands_side (right {c = c} {l = l} {r = r} {a = a} {b = b} {i = i} w) s zero d m =
    let p = stands_within w s.1 in
    let q = spans_rises l a c s.0 in
    absurd (omega arith)
stands_side {u} {x} {y} {j} (right {c = c} {l = l} {r = r} {a = a} {b = b} {i = i} w) s (suc k) d m =
    let p = stands_within w s.1 in
    let q = spans_rises l a c s.0 in
    let n = length_preorder l a c s.0 in
    get_or-append_right (preorder l a c) (preorder r c b) (length (preorder l a c)) k d refl (omega arith)
    ∙ stands_side w s.1 (k - length (preorder l a c)) d (omega arith)

-- The children of what stands at a place stand one on, and past the left one.
pub stands_left : {c : ℕ} {l r : Tree} {x y j : ℕ} {t : Tree} {a b i : ℕ} → Stands (node c l r) x y j t a b i → Stands l x c (j + 1) t a b i
stands_left {c} {l} {r} {x} {y} {j} (here {t = t} {a = a} {b = b} {i = i} e f g h) =
    subst (λ (v : Tree). Stands l x c (j + 1) v a b i) e
    (subst (λ (z : ℕ). Stands l x c (j + 1) (node c l r) z b i) f
    (subst (λ (z : ℕ). Stands l x c (j + 1) (node c l r) x z i) g
    (subst (λ (z : ℕ). Stands l x c (j + 1) (node c l r) x y z) h (left (here refl refl refl refl)))))
stands_left (left w) = left (stands_left w)
stands_left (right w) = right (stands_left w)

pub stands_right : {c : ℕ} {l r : Tree} {x y j : ℕ} {t : Tree} {a b i : ℕ} → Stands (node c l r) x y j t a b i → Stands r c y (j + 2 * (c - x)) t a b i
stands_right {c} {l} {r} {x} {y} {j} (here {t = t} {a = a} {b = b} {i = i} e f g h) =
    subst (λ (v : Tree). Stands r c y (j + 2 * (c - x)) v a b i) e
    (subst (λ (z : ℕ). Stands r c y (j + 2 * (c - x)) (node c l r) z b i) f
    (subst (λ (z : ℕ). Stands r c y (j + 2 * (c - x)) (node c l r) x z i) g
    (subst (λ (z : ℕ). Stands r c y (j + 2 * (c - x)) (node c l r) x y z) h (right (here refl refl refl refl)))))
stands_right (left w) = left (stands_right w)
stands_right (right w) = right (stands_right w)

-- What stands at the place j of the tree t.
pub record Standing (t : Tree) (a b i j : ℕ) : Type 0 where
  pub tree : Tree
  pub low : ℕ
  pub high : ℕ
  pub stands : Stands tree low high j t a b i

in_left : {c : ℕ} {l r : Tree} {a b i j : ℕ} → Standing l a c (i + 1) j → Standing (node c l r) a b i j
in_left w = record { tree = w.tree; low = w.low; high = w.high; stands = left w.stands }

in_right : {c : ℕ} {l r : Tree} {a b i j : ℕ} → Standing r c b (i + 2 * (c - a)) j → Standing (node c l r) a b i j
in_right w = record { tree = w.tree; low = w.low; high = w.high; stands = right w.stands }

-- Something stands at each place of the tree.
pub standing : (t : Tree) (a b i j : ℕ) → Spans t a b → i ≤ j → j + 1 + 2 * a < i + 2 * b → Standing t a b i j
standing leaf a b i j s p q = record { tree = leaf; low = a; high = b; stands = here refl refl refl (omega arith) }
standing (node c l r) a b i j s p q =
    let m = spans_rises l a c s.0 in
    let n = spans_rises r c b s.1 in
    ⊎_elim
    (λ (e : j < i + 1). record { tree = node c l r; low = a; high = b; stands = here refl refl refl (omega arith) })
    (λ (e : i + 1 ≤ j).
    ⊎_elim
    (λ (f : j < i + 2 * (c - a)). in_left (standing l a c (i + 1) j s.0 e (omega arith)))
    (λ (f : i + 2 * (c - a) ≤ j). in_right (standing r c b (i + 2 * (c - a)) j s.1 f (omega arith)))
    (cases_lt j (i + 2 * (c - a))))
    (cases_lt j (i + 1))

pub record Alike (u v : Tree) (x y x' y' : ℕ) : Type 0 where
  pub tree : u ≡ v
  pub low : x ≡ x'
  pub high : y ≡ y'

-- One subtree stands at a place: the places of the left and of the right part, and the tree's own, are apart.
pub stands_one : {u : Tree} {x y j : ℕ} {v : Tree} {x' y' j' : ℕ} {t : Tree} {a b i : ℕ} → Stands u x y j t a b i → Stands v x' y' j' t a b i → Spans t a b → j ≡ j' → Alike u v x y x' y'
stands_one (here e f g h) (here e' f' g' h') s m = record { tree = e ∙ sym e'; low = omega arith; high = omega arith }
stands_one (here e f g h) (left w) s m = let p = stands_within w s.0 in absurd (omega arith)
stands_one (here e f g h) (right {c = c} {l = l} {a = a} w) s m =
    let p = stands_within w s.1 in
    let q = spans_rises l a c s.0 in
    absurd (omega arith)
stands_one (left w) (here e f g h) s m = let p = stands_within w s.0 in absurd (omega arith)
stands_one (left w) (left w') s m = stands_one w w' s.0 m
stands_one (left {c = c} {l = l} {a = a} w) (right w') s m =
    let p = stands_within w s.0 in
    let q = stands_within w' s.1 in
    absurd (omega arith)
stands_one (right {c = c} {l = l} {a = a} w) (here e f g h) s m =
    let p = stands_within w s.1 in
    let q = spans_rises l a c s.0 in
    absurd (omega arith)
stands_one (right w) (left w') s m =
    let p = stands_within w s.1 in
    let q = stands_within w' s.0 in
    absurd (omega arith)
stands_one (right w) (right w') s m = stands_one w w' s.1 m

-- The subtree whose child stands at the place j.
pub record Parent (t : Tree) (a b i j : ℕ) : Type 0 where
  pub third : ℕ
  pub left_part : Tree
  pub right_part : Tree
  pub low : ℕ
  pub high : ℕ
  pub place : ℕ
  pub stands : Stands (node third left_part right_part) low high place t a b i
  pub earlier : place < j
  pub child : (j ≡ place + 1) ⊎ (j ≡ place + 2 * (third - low))

parent_left : {c : ℕ} {l r : Tree} {a b i j : ℕ} → Parent l a c (i + 1) j → Parent (node c l r) a b i j
parent_left w = record { third = w.third; left_part = w.left_part; right_part = w.right_part; low = w.low; high = w.high; place = w.place; stands = left w.stands; earlier = w.earlier; child = w.child }

parent_right : {c : ℕ} {l r : Tree} {a b i j : ℕ} → Parent r c b (i + 2 * (c - a)) j → Parent (node c l r) a b i j
parent_right w = record { third = w.third; left_part = w.left_part; right_part = w.right_part; low = w.low; high = w.high; place = w.place; stands = right w.stands; earlier = w.earlier; child = w.child }

-- What stands at a place is the whole tree or the child of what stands at an earlier place.
pub stands_parent : {u : Tree} {x y j : ℕ} {t : Tree} {a b i : ℕ} → Stands u x y j t a b i → Spans t a b → (j ≡ i) ⊎ Parent t a b i j
stands_parent (here e f g h) s = inl h
stands_parent {u} {x} {y} {j} (left {c = c} {l = l} {r = r} {a = a} {b = b} {i = i} w) s =
    ⊎_elim
    (λ (e : j ≡ i + 1). inr (record { third = c; left_part = l; right_part = r; low = a; high = b; place = i; stands = here refl refl refl refl; earlier = omega arith; child = inl e }))
    (λ (p : Parent l a c (i + 1) j). inr (parent_left p))
    (stands_parent w s.0)
stands_parent {u} {x} {y} {j} (right {c = c} {l = l} {r = r} {a = a} {b = b} {i = i} w) s =
    let q = spans_rises l a c s.0 in
    ⊎_elim
    (λ (e : j ≡ i + 2 * (c - a)). inr (record { third = c; left_part = l; right_part = r; low = a; high = b; place = i; stands = here refl refl refl refl; earlier = omega arith; child = inr e }))
    (λ (p : Parent r c b (i + 2 * (c - a)) j). inr (parent_right p))
    (stands_parent w s.1)

-- Of two places the earlier has the lower low end, or the same low end and the higher high end.
pub stands_before : {u : Tree} {x y j : ℕ} {v : Tree} {x' y' j' : ℕ} {t : Tree} {a b i : ℕ} → Stands u x y j t a b i → Stands v x' y' j' t a b i → Spans t a b → j < j' → Before x y x' y'
stands_before (here e f g h) (here e' f' g' h') s m = absurd (omega arith)
stands_before {u} {x} {y} {j} {v} {x'} {y'} {j'} (here e f g h) (left {c = c} {r = r} {b = b} w) s m =
    let p = stands_within w s.0 in
    let q = spans_rises r c b s.1 in
    ⊎_elim (λ (k : x < x'). inl k) (λ (k : x' ≤ x). inr (omega arith, omega arith)) (cases_lt x x')
stands_before (here e f g h) (right {c = c} {l = l} {a = a} w) s m =
    let p = stands_within w s.1 in
    let q = spans_rises l a c s.0 in
    inl (omega arith)
stands_before (left w) (here e f g h) s m = let p = stands_within w s.0 in absurd (omega arith)
stands_before (left w) (left w') s m = stands_before w w' s.0 m
stands_before (left w) (right w') s m =
    let p = stands_within w s.0 in
    let q = stands_within w' s.1 in
    inl (omega arith)
stands_before (right w) (here e f g h) s m = let p = stands_within w s.1 in absurd (omega arith)
stands_before (right w) (left w') s m =
    let p = stands_within w s.1 in
    let q = stands_within w' s.0 in
    absurd (omega arith)
stands_before (right w) (right w') s m = stands_before w w' s.1 m
