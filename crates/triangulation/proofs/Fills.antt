-- The fill of a ring: it exists, the links decide it, it triangulates, and links that do not cross are among its sides.
-- Assumes nothing.
use Rattle.std.proofs.Common.{◌≡◌, ℕ, zero, suc, ◌+◌, ◌-◌, ◌*◌, ◌<◌, ◌≤◌, true, false, ◌⊎◌, sym, refl, ap, ◌∙◌, subst, inl, inr, ⊎_elim, arith}
use Rattle.std.proofs.lemmas.Bool.{cases_lt, cases_order, cases_Bool, both_ways}
use Rattle.triangulation.specs.Trees.{Tree, leaf, node, Spans, Stands, here, left, right}
use Rattle.triangulation.specs.Filling.{Joins, Third, Filled, Uncrossed, SomeFill, OneFill, FillTriangulates, LinksAreSides}

-- Look downwards from b - 1 for a link from a; where none is found above a + 1, that is the third terminal.
third_from : (J : Joins) (a b m : ℕ) → a + 1 + m < b → ((d : ℕ) → a + 1 + m < d → d < b → J a d ≡ true → ⊥) → (c : ℕ) × Third J a b c
third_from J a b zero h none = (a + 1, record { above = omega arith; below = omega arith; drawn = inl refl; largest = λ d p q. none d (omega arith) q })
third_from J a b (suc m) h none =
    ⊎_elim
    (λ (e : J a (a + 1 + suc m) ≡ true). (a + 1 + suc m, record { above = omega arith; below = omega arith; drawn = inr e; largest = none }))
    (λ (e : J a (a + 1 + suc m) ≡ false). third_from J a b m (omega arith) (λ d p q t.
    ⊎_elim
    (λ (k : a + 1 + suc m < d). none d k q t)
    (λ (k : d ≤ a + 1 + suc m).
    let z : d ≡ a + 1 + suc m = omega arith in
    both_ways (J a (a + 1 + suc m)) e (ap (J a) (sym z) ∙ t))
    (cases_lt (a + 1 + suc m) d)))
    (cases_Bool (J a (a + 1 + suc m)))

pub some_third : (J : Joins) (a b : ℕ) → a + 1 < b → (c : ℕ) × Third J a b c
some_third J a b h = third_from J a b (b - (a + 2)) (omega arith) (λ d p q t. omega arith)

-- Two candidates: the smaller is not the largest, unless both are a + 1.
pub one_third : (J : Joins) (a b c d : ℕ) → Third J a b c → Third J a b d → c ≡ d
one_third J a b c d p q =
    ⊎_elim
    (λ (e : c ≡ d). e)
    (⊎_elim (λ (h : c < d). absurd (smaller c d p q h)) (λ (h : d < c). absurd (smaller d c q p h)))
    (cases_order c d)
  where
    smaller : (x y : ℕ) → Third J a b x → Third J a b y → x < y → ⊥
    smaller x y s t h = ⊎_elim (λ (e : y ≡ a + 1). omega arith) (λ (e : J a y ≡ true). s.largest y h t.below e) t.drawn

grown : (J : Joins) (m a b : ℕ) → a < b → b ≤ a + 1 + m → (t : Tree) × Filled J t a b
grown J zero a b h k = (leaf, omega arith)
grown J (suc m) a b h k =
    ⊎_elim
    (λ (e : a + 1 < b).
    let c = some_third J a b e in
    let l = grown J m a c.0 c.1.above (omega arith) in
    let r = grown J m c.0 b c.1.below (omega arith) in
    (node c.0 l.0 r.0, (c.1, l.1, r.1)))
    (λ (e : b ≤ a + 1). (leaf, omega arith))
    (cases_lt (a + 1) b)

pub some_fill : SomeFill
some_fill J n h = grown J n 0 (n - 1) (omega arith) (omega arith)

pub filled_spans : (J : Joins) (t : Tree) (a b : ℕ) → Filled J t a b → Spans t a b
filled_spans J leaf a b e = e
filled_spans J (node c l r) a b f = (filled_spans J l a c f.1, filled_spans J r c b f.2)

-- Third terminals agree at the top, and so the trees below do.
filled_one : (J : Joins) (t u : Tree) (a b : ℕ) → Filled J t a b → Filled J u a b → t ≡ u
filled_one J leaf leaf a b f g = refl
filled_one J leaf (node c l r) a b f g = let p = g.0 in absurd (omega arith)
filled_one J (node c l r) leaf a b f g = let p = f.0 in absurd (omega arith)
filled_one J (node c l r) (node c' l' r') a b f g =
    let e = one_third J a b c c' f.0 g.0 in
    let p = filled_one J l l' a c f.1 (subst (λ (z : ℕ). Filled J l' a z) (sym e) g.1) in
    let q = filled_one J r r' c b f.2 (subst (λ (z : ℕ). Filled J r' z b) (sym e) g.2) in
    cc

pub one_fill : OneFill
one_fill J n t u = filled_one J t u 0 (n - 1)

pub fill_triangulates : FillTriangulates
fill_triangulates J n t = filled_spans J t 0 (n - 1)

pub record Found (t : Tree) (a b i x y : ℕ) : Type 0 where
  pub tree : Tree
  pub place : ℕ
  pub stands : Stands tree x y place t a b i

-- A link in the polygon from a to b is its base, or lies to one side of the third terminal c. For if it starts at a it ends
-- at c or before, c being the largest; and if it starts strictly between a and c then {a, c} is a link, which it does not cross.
pub link_found : (J : Joins) (t : Tree) (a b i x y : ℕ) → Filled J t a b → Uncrossed J → J x y ≡ true → a ≤ x → x < y → y ≤ b → Found t a b i x y
link_found J leaf a b i x y f h e p q r = record { tree = leaf; place = i; stands = here refl (omega arith) (omega arith) refl }
link_found J (node c l r) a b i x y f h e p q k =
    ⊎_elim
    (λ (m : x < c).
    ⊎_elim
    (λ (o : c < y).
    ⊎_elim
    (λ (s : a < x). absurd (straddles s m o f.0.drawn))
    (λ (s : x ≤ a).
    ⊎_elim
    (λ (v : y < b). absurd (f.0.largest y o v (subst (λ (z : ℕ). J z y ≡ true) (omega arith) e)))
    (λ (v : b ≤ y). record { tree = node c l r; place = i; stands = here refl (omega arith) (omega arith) refl })
    (cases_lt y b))
    (cases_lt a x))
    (λ (o : y ≤ c). let w = link_found J l a c (i + 1) x y f.1 h e p q o in record { tree = w.tree; place = w.place; stands = left w.stands })
    (cases_lt c y))
    (λ (m : c ≤ x). let w = link_found J r c b (i + 2 * (c - a)) x y f.2 h e m q k in record { tree = w.tree; place = w.place; stands = right w.stands })
    (cases_lt x c)
  where
    straddles : a < x → x < c → c < y → (c ≡ a + 1) ⊎ (J a c ≡ true) → ⊥
    straddles s m o d = ⊎_elim (λ (z : c ≡ a + 1). omega arith) (λ (z : J a c ≡ true). h a c x y z e s m o) d

pub links_are_sides : LinksAreSides
links_are_sides J n t f h x y e p q =
    let w = link_found J t 0 (n - 1) 0 x y f h e (omega arith) p (omega arith) in
    (w.tree, w.place, w.stands)

-- The third terminal of whatever stands in a fill is the chosen one.
pub stands_filled : (J : Joins) {u : Tree} {x y j : ℕ} {t : Tree} {a b i : ℕ} → Stands u x y j t a b i → Filled J t a b → Filled J u x y
stands_filled J {u} {x} {y} (here {t = t} {a = a} {b = b} e f g h) s =
    subst (λ (v : Tree). Filled J v x y) (sym e) (subst (λ (z : ℕ). Filled J t z y) (sym f) (subst (λ (z : ℕ). Filled J t a z) (sym g) s))
stands_filled J (left w) s = stands_filled J w s.1
stands_filled J (right w) s = stands_filled J w s.2
