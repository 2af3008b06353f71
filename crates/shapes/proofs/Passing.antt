-- A shape is drawn in place: after i places each place known by then, the root and the children of every place passed, holds
-- its side.
-- Assumes nothing.
use Rattle.std.proofs.Common.{◌≡◌, ◌≢◌, ℕ, zero, suc, ◌+◌, ◌-◌, ◌*◌, ◌<◌, ◌≤◌, ◌⊎◌, List, map, length, get_or, take, set, sym, refl, ap, ◌∙◌, subst, inl, inr, ⊎_elim, add-zero, arith, rules, length-set, length-take, get_or-set_other, get_or-set_same}
use lib.ListN.{length-map}
use Rattle.std.proofs.lemmas.List.{get_or-map, get_or-take, ext_get_or}
use Rattle.std.proofs.lemmas.Bool.{cases_lt, cases_eq}
use Rattle.triangulation.specs.Trees.{Tree, leaf, node, Spans, Stands, here, left, right, side, preorder}
use Rattle.triangulation.proofs.Places.{Parent, standing, spans_rises, length_preorder, stands_one, stands_parent, stands_side, stands_left, stands_right, stands_spans, stands_within}
use Rattle.ring.specs.declared.Link.{Link}
use Rattle.ring.specs.Linked.{ends_of, link_at}
use Rattle.shapes.specs.declared.Shape.{Shape}
use Rattle.shapes.specs.declared.Shape.TheVariants.{Fan, Zigzag, Balanced, Scattered, Bare}
use Rattle.shapes.specs.Shapes.{ThirdBy, Shaped, Drawn, link_between, third_of}

-- The chosen third terminal lies where the shape says.
third_lies : (shape : Shape) (a b : ℕ) → a + 1 < b → ThirdBy shape a (third_of shape a b) b
third_lies Fan a b h = search rules
third_lies Zigzag a b h = search rules
third_lies Balanced a b h = search rules
third_lies Scattered a b h = search rules
third_lies Bare a b h = search rules

-- It lies between the ends.
third_between : (shape : Shape) (a b : ℕ) → a + 1 < b → (a < third_of shape a b) × (third_of shape a b < b)
third_between Fan a b h = search rules
third_between Zigzag a b h = search rules
third_between Balanced a b h = search rules
third_between Scattered a b h = search rules
third_between Bare a b h = search rules

-- The area after the left one of the two sides below the side at i is written, for the third terminal c.
abbrev left_put : List Link → ℕ → ℕ → List Link
left_put xs i c = set xs (i + 1) (link_between (link_at xs i).from c)

-- After both are.
abbrev pub both_put : List Link → ℕ → ℕ → List Link
both_put xs i c = set (left_put xs i c) (i + 2 * (c - (link_at xs i).from)) (link_between c (link_at xs i).to)

module _ (shape : Shape) where
  -- Every third terminal of the tree is the one chosen for its side.
  abbrev pub Chosen : Tree → ℕ → ℕ → Type 0
  Chosen leaf a b = b ≡ a + 1
  Chosen (node c l r) a b = (c ≡ third_of shape a b) × Chosen l a c × Chosen r c b

  -- So it triangulates its polygon.
  chosen_spans : (t : Tree) (a b : ℕ) → Chosen t a b → Spans t a b
  chosen_spans leaf a b e = e
  chosen_spans (node c l r) a b f = (chosen_spans l a c f.1, chosen_spans r c b f.2)

  -- And its triangles lie as the shape says.
  chosen_shaped : (t : Tree) (a b : ℕ) → Chosen t a b → Shaped shape t a b
  chosen_shaped leaf a b e = tt
  chosen_shaped (node c l r) a b f =
      let p = spans_rises l a c (chosen_spans l a c f.1) in
      let q = spans_rises r c b (chosen_spans r c b f.2) in
      (subst (λ (z : ℕ). ThirdBy shape a z b) (sym f.0) (third_lies shape a b (omega arith)), chosen_shaped l a c f.1, chosen_shaped r c b f.2)

  -- There is such a tree.
  grown : (m a b : ℕ) → a < b → b ≤ a + 1 + m → (t : Tree) × Chosen t a b
  grown zero a b h k = (leaf, omega arith)
  grown (suc m) a b h k =
      ⊎_elim
      (λ (e : a + 1 < b).
      let c = third_of shape a b in
      let w = third_between shape a b e in
      let l = grown m a c w.0 (omega arith) in
      let r = grown m c b w.1 (omega arith) in
      (node c l.0 r.0, (refl, l.1, r.1)))
      (λ (e : b ≤ a + 1). (leaf, omega arith))
      (cases_lt (a + 1) b)

  -- The third terminal of whatever stands in it is the chosen one.
  stands_chosen : {u : Tree} {x y j : ℕ} {t : Tree} {a b i : ℕ} → Stands u x y j t a b i → Chosen t a b → Chosen u x y
  stands_chosen {u} {x} {y} (here {t = t} {a = a} {b = b} e f g h) s =
      subst (λ (v : Tree). Chosen v x y) (sym e) (subst (λ (z : ℕ). Chosen t z y) (sym f) (subst (λ (z : ℕ). Chosen t a z) (sym g) s))
  stands_chosen (left w) s = stands_chosen w s.1
  stands_chosen (right w) s = stands_chosen w s.2

  module _ (last : ℕ) where
    -- The subtree u over {x, y} stands at place k of the ring from 0 to last.
    abbrev StandsAt : Tree → Tree → ℕ → ℕ → ℕ → Type 0
    StandsAt t u x y k = Stands u x y k t 0 last 0

    -- The place k is the root's, or a child's of a place that the loop has passed.
    abbrev pub Known : Tree → ℕ → ℕ → Type 0
    Known t i k = (k ≡ 0) ⊎ ((p : Parent t 0 last 0 k) × (p.place < i))

    -- After i places every known one that the area has holds its side.
    abbrev pub Passed : ℕ → List Link → Type 0
    Passed i links =
        (t : Tree) → Chosen t 0 last → (u : Tree) (x y k : ℕ) → StandsAt t u x y k → k < length links → Known t i k → link_at links k ≡ link_between x y

    -- Whatever stands at a place is known once the loop has come to it.
    known_here : (t : Tree) → Spans t 0 last → (u : Tree) (x y k i : ℕ) → StandsAt t u x y k → k ≤ i → Known t i k
    known_here t s u x y k i w l =
        ⊎_elim (λ (e : k ≡ 0). inl e) (λ (p : Parent t 0 last 0 k). let m = p.earlier in inr (p, omega arith)) (stands_parent w s)

    -- Two names of the subtree at one place.
    same_link : (t : Tree) → Spans t 0 last → (u v : Tree) (x y x' y' k k' : ℕ) → StandsAt t u x y k → StandsAt t v x' y' k' → k ≡ k' → link_between x y ≡ link_between x' y'
    same_link t s u v x y x' y' k k' w w' e =
        let a = stands_one w w' s e in
        ap (λ (z : ℕ). link_between z y) a.low ∙ ap (λ (z : ℕ). link_between x' z) a.high

    -- A write of the right link at j leaves k right, if it was or if it is j.
    put_right : (t : Tree) → Spans t 0 last → (xs : List Link) (u v : Tree) (x y x' y' k j : ℕ) → StandsAt t u x y k → StandsAt t v x' y' j
        → k < length xs → (link_at xs k ≡ link_between x y) ⊎ (k ≡ j) → link_at (set xs j (link_between x' y')) k ≡ link_between x y
    put_right t s xs u v x y x' y' k j w w' h way =
        ⊎_elim
        (λ (q : k ≡ j).
        ap (λ (z : ℕ). link_at (set xs j (link_between x' y')) z) q
        ∙ (get_or-set_same xs j (link_between x' y') (link_between 0 0) (omega arith) ∙ sym (same_link t s u v x y x' y' k j w w' q)))
        (λ (q : k ≡ j → ⊥).
        get_or-set_other xs j k (link_between x' y') (link_between 0 0) q
        ∙ ⊎_elim (λ (m : link_at xs k ≡ link_between x y). m) (λ (m : k ≡ j). absurd (q m)) way)
        (cases_eq k j)

    -- Before the first place only the root is known.
    pub passed_none : (xs : List Link) → Passed 0 (set xs 0 (link_between 0 last))
    passed_none xs t f u x y k w h known =
        let s = chosen_spans t 0 last f in
        ⊎_elim
        (λ (z : k ≡ 0). put_right t s xs u t x y 0 last k 0 w (here refl refl refl refl) (let e = length-set xs 0 (link_between 0 last) in omega arith) (inr z))
        (λ (p : (p : Parent t 0 last 0 k) × (p.place < 0)). let l = p.1 in absurd (omega arith))
        known

    module _ (xs : List Link) (i : ℕ) (P : Passed i xs) (within : i < length xs) where
      -- What the loop reads at i is the side of what stands there.
      read_at : (t : Tree) → Chosen t 0 last → (u : Tree) (x y : ℕ) → StandsAt t u x y i → ((link_at xs i).from ≡ x) × ((link_at xs i).to ≡ y)
      read_at t f u x y w =
          let e = P t f u x y i w within (known_here t (chosen_spans t 0 last f) u x y i i w (omega arith)) in
          (ap (λ (z : Link). z.from) e, ap (λ (z : Link). z.to) e)

      -- A place that gets known at the turn i is a child of what stands at i.
      newly_known : (t : Tree) → Chosen t 0 last → (u : Tree) (x y k : ℕ) → StandsAt t u x y k → k < length xs → Known t (i + 1) k
          → (link_at xs k ≡ link_between x y) ⊎ ((p : Parent t 0 last 0 k) × (p.place ≡ i))
      newly_known t f u x y k w h known =
          ⊎_elim
          (λ (e : k ≡ 0). inl (P t f u x y k w h (inl e)))
          (λ (p : (p : Parent t 0 last 0 k) × (p.place < i + 1)).
          ⊎_elim
          (λ (l : p.0.place < i). inl (P t f u x y k w h (inr (p.0, l))))
          (λ (l : i ≤ p.0.place). let m = p.1 in inr (p.0, omega arith))
          (cases_lt p.0.place i))
          known

      -- A unit side has no children.
      passed_unit : (link_at xs i).to ≤ (link_at xs i).from + 1 → Passed (i + 1) xs
      passed_unit short t f u x y k w h known =
          let s = chosen_spans t 0 last f in
          ⊎_elim
          (λ (e : link_at xs k ≡ link_between x y). e)
          (λ (p : (p : Parent t 0 last 0 k) × (p.place ≡ i)).
          let q = p.0 in
          let v = subst (λ (z : ℕ). StandsAt t (node q.third q.left_part q.right_part) q.low q.high z) p.1 q.stands in
          let e = read_at t f (node q.third q.left_part q.right_part) q.low q.high v in
          let g = stands_spans v s in
          let a = spans_rises q.left_part q.low q.third g.0 in
          let b = spans_rises q.right_part q.third q.high g.1 in
          absurd (omega arith))
          (newly_known t f u x y k w h known)

      module _ (c : ℕ) (is : c ≡ third_of shape (link_at xs i).from (link_at xs i).to) (long : (link_at xs i).from + 1 < (link_at xs i).to) where
        -- The chosen terminal lies above the low end.
        above : (link_at xs i).from < c
        above = let b = third_between shape (link_at xs i).from (link_at xs i).to long in omega arith

        -- What stands at i has the third terminal that the loop chose.
        node_from : (t : Tree) → Chosen t 0 last → (u : Tree) (x y : ℕ) → StandsAt t u x y i
            → (l : Tree) × (r : Tree) × StandsAt t (node c l r) (link_at xs i).from (link_at xs i).to i
        node_from t f leaf x y w =
            let e = read_at t f leaf x y w in
            let s = stands_spans w (chosen_spans t 0 last f) in
            absurd (omega arith)
        node_from t f (node d l r) x y w =
            let e = read_at t f (node d l r) x y w in
            let o = (stands_chosen w f).0 in
            let p = subst (λ (z : ℕ). d ≡ third_of shape x z) (sym e.1) o in
            let q = subst (λ (z : ℕ). d ≡ third_of shape z (link_at xs i).to) (sym e.0) p in (
              l,
              r,
              subst (λ (z : ℕ). StandsAt t (node c l r) z (link_at xs i).to i) (sym e.0)
                  (subst (λ (z : ℕ). StandsAt t (node c l r) x z i) (sym e.1)
                  (subst (λ (z : ℕ). StandsAt t (node z l r) x y i) (q ∙ sym is) w)),
            )

        -- The children of i are the two places written.
        children_known : (t : Tree) → Chosen t 0 last → (u l r : Tree) (x y k : ℕ) → StandsAt t u x y k → k < length xs
            → StandsAt t (node c l r) (link_at xs i).from (link_at xs i).to i → Known t (i + 1) k
            → ((link_at xs k ≡ link_between x y) ⊎ (k ≡ i + 1)) ⊎ (k ≡ i + 2 * (c - (link_at xs i).from))
        children_known t f u l r x y k w h v known =
            let s = chosen_spans t 0 last f in
            ⊎_elim
            (λ (e : link_at xs k ≡ link_between x y). inl (inl e))
            (λ (p : (p : Parent t 0 last 0 k) × (p.place ≡ i)).
            let q = p.0 in
            let a = stands_one q.stands v s p.1 in
            let b = p.1 in
            let d : q.third ≡ c = let e = a.tree in cc in
            let lo = a.low in
            ⊎_elim (λ (e : k ≡ q.place + 1). inl (inr (omega arith))) (λ (e : k ≡ q.place + 2 * (q.third - q.low)). inr (omega arith)) q.child)
            (newly_known t f u x y k w h known)

        -- Both writes are of the right link, so nothing that was right is lost.
        kept : (t : Tree) → Chosen t 0 last → (u l r : Tree) (x y k : ℕ) → StandsAt t u x y k → k < length xs
            → StandsAt t (node c l r) (link_at xs i).from (link_at xs i).to i → Known t (i + 1) k → link_at (both_put xs i c) k ≡ link_between x y
        kept t f u l r x y k w h v known =
            let s = chosen_spans t 0 last f in
            let h₂ : k < length (left_put xs i c) = simp length-set h in
            let one : (link_at xs k ≡ link_between x y) ⊎ (k ≡ i + 1) → link_at (left_put xs i c) k ≡ link_between x y
            = put_right t s xs u l x y (link_at xs i).from c k (i + 1) w (stands_left v) h in
            put_right t s (left_put xs i c) u r x y c (link_at xs i).to k (i + 2 * (c - (link_at xs i).from)) w (stands_right v) h₂
            (⊎_elim
            (λ (o : (link_at xs k ≡ link_between x y) ⊎ (k ≡ i + 1)). inl (one o))
            (λ (o : k ≡ i + 2 * (c - (link_at xs i).from)). inr o)
            (children_known t f u l r x y k w h v known))

        -- Past the tree's places both writes are further on.
        kept_past : (t : Tree) → Chosen t 0 last → (u : Tree) (x y k : ℕ) → StandsAt t u x y k → k < length xs → 2 * last ≤ i + 1 → link_at (both_put xs i c) k ≡ link_between x y
        kept_past t f u x y k w h far =
            let s = chosen_spans t 0 last f in
            let m = stands_within w s in
            let a = above in
            let e : k ≢ i + 1 = omega arith in
            let g : k ≢ i + 2 * (c - (link_at xs i).from) = omega arith in
            get_or-set_other (left_put xs i c) (i + 2 * (c - (link_at xs i).from)) k (link_between c (link_at xs i).to) (link_between 0 0) g
            ∙ (get_or-set_other xs (i + 1) k (link_between (link_at xs i).from c) (link_between 0 0) e ∙ P t f u x y k w h (known_here t s u x y k i w (omega arith)))

        -- So a turn at a longer side passes it.
        passed_node : Passed (i + 1) (both_put xs i c)
        passed_node t f u x y k w g known =
            let h : k < length xs = simp length-set at g in
            ⊎_elim
            (λ (near : i + 1 < 2 * last).
            let z = standing t 0 last 0 i (chosen_spans t 0 last f) (omega arith) (omega arith) in
            let v = node_from t f z.tree z.low z.high z.stands in
            kept t f u v.0 v.1 x y k w h v.2 known)
            (λ (far : 2 * last ≤ i + 1). kept_past t f u x y k w h far)
            (cases_lt (i + 1) (2 * last))

    -- A turn of the loop: the two sides below the side at i are written, if there are any.
    pub passed_more : (xs ys : List Link) (i : ℕ) → Passed i xs → i < length xs
        → ((link_at xs i).to ≤ (link_at xs i).from + 1 → ys ≡ xs)
        → ((link_at xs i).from + 1 < (link_at xs i).to
        → ys ≡ both_put xs i (third_of shape (link_at xs i).from (link_at xs i).to))
        → Passed (i + 1) ys
    passed_more xs ys i P within unit split =
        ⊎_elim
        (λ (long : (link_at xs i).from + 1 < (link_at xs i).to).
        subst (Passed (i + 1)) (sym (split long))
        (passed_node xs i P within (third_of shape (link_at xs i).from (link_at xs i).to) refl long))
        (λ (short : (link_at xs i).to ≤ (link_at xs i).from + 1).
        subst (Passed (i + 1)) (sym (unit short)) (passed_unit xs i P within short))
        (cases_lt ((link_at xs i).from + 1) (link_at xs i).to)

    module _ (xs : List Link) (i : ℕ) (end : length xs ≤ i) (P : Passed i xs) (t : Tree) (f : Chosen t 0 last) where
      -- At the end every place is known, and so holds its side.
      held : (u : Tree) (x y k : ℕ) → StandsAt t u x y k → k < length xs → ends_of (link_at xs k) ≡ get_or (preorder t 0 last) k (side 0 0)
      held u x y k w h =
          let s = chosen_spans t 0 last f in
          ap ends_of (P t f u x y k w h (known_here t s u x y k i w (omega arith))) ∙ sym (stands_side w s k (side 0 0) (add-zero k))

      -- They are the sides of this tree.
      drawn : Drawn shape last xs
      drawn =
          let s = chosen_spans t 0 last f in
          let m = length_preorder t 0 last s in
          record {
            tree = t;
            spans = s;
            shaped = chosen_shaped t 0 last f;
            sides = ext_get_or (side 0 0) (map ends_of (take (2 * last - 1) xs)) (take (length xs) (preorder t 0 last)) (simp (length-map, length-take) (omega arith)) (λ k l.
                let b : k < length (take (2 * last - 1) xs) = simp length-map at l in
                let d = length-take (2 * last - 1) xs in
                let w = standing t 0 last 0 k s (omega arith) (omega arith) in
                get_or-map ends_of (take (2 * last - 1) xs) k (link_between 0 0) (side 0 0) b
                ∙ (ap ends_of (get_or-take (2 * last - 1) xs k (link_between 0 0) (omega arith))
                ∙ (held w.tree w.low w.high k w.stands (omega arith) ∙ sym (get_or-take (length xs) (preorder t 0 last) k (side 0 0) (omega arith)))));
          }

    -- So the area is drawn.
    pub passed_all : (xs : List Link) (i : ℕ) → length xs ≤ i → Passed i xs → 1 ≤ last → Drawn shape last xs
    passed_all xs i end P some = let t = grown last 0 last (omega arith) (omega arith) in drawn xs i end P t.0 t.1
