-- The loop of the fill: the root, and the children of every place passed, hold what belongs there.
-- Assumes nothing.
use Rattle.std.proofs.Common.{◌≡◌, ℕ, ◌+◌, ◌-◌, ◌*◌, ◌<◌, ◌≤◌, ◌⊎◌, List, [], length, drop, set, sym, refl, ap, ◌∙◌, subst, inl, inr, ⊎_elim, add-zero, arith, length-set, get_or-set_other, get_or-set_same}
use Rattle.std.proofs.lemmas.List.{drop-set-lt}
use Rattle.std.proofs.lemmas.Bool.{cases_lt, cases_eq}
use Rattle.triangulation.specs.Trees.{Tree, leaf, node, RingTree, StandsIn, here, side_count, side}
use Rattle.triangulation.specs.Filling.{Third, Filled}
use Rattle.triangulation.proofs.Places.{Parent, stands_one, stands_parent, stands_side, stands_left, stands_right, stands_spans, spans_rises}
use Rattle.triangulation.proofs.ByPlace.{ring_standing, ring_within}
use Rattle.triangulation.proofs.Fills.{some_fill, one_third, filled_spans, stands_filled}
use Rattle.ring.specs.declared.Link.{Link}
use Rattle.ring.specs.declared.Side.{Side}
use Rattle.ring.specs.Linked.{joins}
use Rattle.ring.specs.Areas.{side_at, new_side, FilledWith}
use Rattle.ring.proofs.InArea.{blank, filled_from}

-- The place k is the root's, or a child's of a place that the loop has passed.
abbrev pub Known : ℕ → Tree → ℕ → ℕ → Type 0
Known n t i k = (k ≡ 0) ⊎ ((p : Parent t 0 (n - 1) 0 k) × (p.place < i))

-- After i places every known one holds its side, for the tree that the links decide.
abbrev pub Passed : ℕ → List Link → ℕ → List Side → Type 0
Passed n links i sides =
    (t : Tree) → Filled (joins links) t 0 (n - 1) → (u : Tree) (x y k : ℕ) → StandsIn n t u x y k → Known n t i k
    → side_at sides k ≡ new_side [] (side x y)

module _ (n : ℕ) (links : List Link) (enough : 2 ≤ n) where
  -- Whatever stands at a place is known once the loop has come to it.
  known_here : (t : Tree) → RingTree n t → (u : Tree) (x y k i : ℕ) → StandsIn n t u x y k → k ≤ i → Known n t i k
  known_here t s u x y k i w l =
      ⊎_elim (λ (e : k ≡ 0). inl e) (λ (p : Parent t 0 (n - 1) 0 k). let m = p.earlier in inr (p, omega arith)) (stands_parent w s)

  -- Two names of the subtree at one place.
  same_record : (t : Tree) → RingTree n t → (u v : Tree) (x y x' y' k k' : ℕ) → StandsIn n t u x y k → StandsIn n t v x' y' k' → k ≡ k'
      → new_side [] (side x y) ≡ new_side [] (side x' y')
  same_record t s u v x y x' y' k k' w w' e =
      let a = stands_one w w' s e in
      ap (λ (z : ℕ). new_side [] (side z y)) a.low ∙ ap (λ (z : ℕ). new_side [] (side x' z)) a.high

  -- A write of the right record at j leaves k right, if it was or if it is j.
  put_right : (t : Tree) → RingTree n t → (xs : List Side) (u v : Tree) (x y x' y' k j : ℕ) (r : Side) → StandsIn n t u x y k → StandsIn n t v x' y' j
      → r ≡ new_side [] (side x' y') → j < length xs → (side_at xs k ≡ new_side [] (side x y)) ⊎ (k ≡ j) → side_at (set xs j r) k ≡ new_side [] (side x y)
  put_right t s xs u v x y x' y' k j r w w' e h way =
      ⊎_elim
      (λ (q : k ≡ j).
      ap (λ (z : ℕ). side_at (set xs j r) z) q ∙ (get_or-set_same xs j r blank h ∙ (e ∙ sym (same_record t s u v x y x' y' k j w w' q))))
      (λ (q : k ≡ j → ⊥). get_or-set_other xs j k r blank q ∙ ⊎_elim (λ (m : side_at xs k ≡ new_side [] (side x y)). m) (λ (m : k ≡ j). absurd (q m)) way)
      (cases_eq k j)

  -- Before the first place only the root is known.
  pub passed_none : (xs : List Side) (r : Side) → 0 < length xs → r ≡ new_side [] (side 0 (n - 1)) → Passed n links 0 (set xs 0 r)
  passed_none xs r h e t f u x y k w known =
      let s = filled_spans (joins links) t 0 (n - 1) f in
      ⊎_elim
      (λ (z : k ≡ 0). put_right t s xs u t x y 0 (n - 1) k 0 r w (here refl refl refl refl) e h (inr z))
      (λ (p : (p : Parent t 0 (n - 1) 0 k) × (p.place < 0)). let l = p.1 in absurd (omega arith))
      known

  module _ (xs : List Side) (i : ℕ) (P : Passed n links i xs) (within : i < side_count n) where
    -- What the loop reads at i is the record of what stands there.
    read_at : (t : Tree) → Filled (joins links) t 0 (n - 1) → (u : Tree) (x y : ℕ) → StandsIn n t u x y i → ((side_at xs i).low ≡ x) × ((side_at xs i).high ≡ y)
    read_at t f u x y w =
        let s = filled_spans (joins links) t 0 (n - 1) f in
        let e = P t f u x y i w (known_here t s u x y i i w (omega arith)) in
        (ap (λ (z : Side). z.low) e, ap (λ (z : Side). z.high) e)

    -- The ends that it reads lie in the ring, and the places below them in the area.
    pub read_within : ((side_at xs i).low < (side_at xs i).high) × ((side_at xs i).high < n) × (i + 2 * ((side_at xs i).high - (side_at xs i).low) ≤ side_count n + 1)
    read_within =
        let f = some_fill (joins links) n enough in
        let s = filled_spans (joins links) f.0 0 (n - 1) f.1 in
        let w = ring_standing n f.0 enough s i within in
        let r = ring_within n f.0 enough s w.tree w.low w.high i w.stands in
        let e = read_at f.0 f.1 w.tree w.low w.high w.stands in
        omega arith

    -- A place that gets known at the turn i is a child of what stands at i.
    newly_known : (t : Tree) → Filled (joins links) t 0 (n - 1) → (u : Tree) (x y k : ℕ) → StandsIn n t u x y k → Known n t (i + 1) k
        → (side_at xs k ≡ new_side [] (side x y)) ⊎ ((p : Parent t 0 (n - 1) 0 k) × (p.place ≡ i))
    newly_known t f u x y k w known =
        ⊎_elim
        (λ (e : k ≡ 0). inl (P t f u x y k w (inl e)))
        (λ (p : (p : Parent t 0 (n - 1) 0 k) × (p.place < i + 1)).
        ⊎_elim
        (λ (l : p.0.place < i). inl (P t f u x y k w (inr (p.0, l))))
        (λ (l : i ≤ p.0.place). let m = p.1 in inr (p.0, omega arith))
        (cases_lt p.0.place i))
        known

    -- A unit side has no children.
    pub passed_unit : (side_at xs i).high ≤ (side_at xs i).low + 1 → Passed n links (i + 1) xs
    passed_unit short t f u x y k w known =
        let s = filled_spans (joins links) t 0 (n - 1) f in
        ⊎_elim
        (λ (e : side_at xs k ≡ new_side [] (side x y)). e)
        (λ (p : (p : Parent t 0 (n - 1) 0 k) × (p.place ≡ i)).
        let q = p.0 in
        let v = subst (λ (z : ℕ). StandsIn n t (node q.third q.left_part q.right_part) q.low q.high z) p.1 q.stands in
        let e = read_at t f (node q.third q.left_part q.right_part) q.low q.high v in
        let g = stands_spans v s in
        let a = spans_rises q.left_part q.low q.third g.0 in
        let b = spans_rises q.right_part q.third q.high g.1 in
        absurd (omega arith))
        (newly_known t f u x y k w known)

    module _ (c : ℕ) (third : Third (joins links) (side_at xs i).low (side_at xs i).high c) (long : side_count n ≤ length xs) where
      -- What stands at i has the third terminal that the loop chose.
      node_from : (t : Tree) → Filled (joins links) t 0 (n - 1) → (u : Tree) (x y : ℕ) → StandsIn n t u x y i
          → (l : Tree) × (r : Tree) × StandsIn n t (node c l r) (side_at xs i).low (side_at xs i).high i
      node_from t f leaf x y w =
          let e = read_at t f leaf x y w in
          let s = stands_spans w (filled_spans (joins links) t 0 (n - 1) f) in
          let a = third.above in
          let b = third.below in
          absurd (omega arith)
      node_from t f (node d l r) x y w =
          let e = read_at t f (node d l r) x y w in
          let o = (stands_filled (joins links) w f).0 in
          let p = subst (λ (z : ℕ). Third (joins links) z (side_at xs i).high c) e.0 third in
          let q = subst (λ (z : ℕ). Third (joins links) x z c) e.1 p in
          let same = one_third (joins links) x y d c o q in (
            l,
            r,
            subst (λ (z : ℕ). StandsIn n t (node c l r) z (side_at xs i).high i) (sym e.0)
                (subst (λ (z : ℕ). StandsIn n t (node c l r) x z i) (sym e.1)
                (subst (λ (z : ℕ). StandsIn n t (node z l r) x y i) same w)),
          )

      -- The children of i are the two places written.
      children_known : (t : Tree) → Filled (joins links) t 0 (n - 1) → (u l r : Tree) (x y k : ℕ) → StandsIn n t u x y k
          → StandsIn n t (node c l r) (side_at xs i).low (side_at xs i).high i → Known n t (i + 1) k
          → ((side_at xs k ≡ new_side [] (side x y)) ⊎ (k ≡ i + 1)) ⊎ (k ≡ i + 2 * (c - (side_at xs i).low))
      children_known t f u l r x y k w v known =
          let s = filled_spans (joins links) t 0 (n - 1) f in
          ⊎_elim
          (λ (e : side_at xs k ≡ new_side [] (side x y)). inl (inl e))
          (λ (p : (p : Parent t 0 (n - 1) 0 k) × (p.place ≡ i)).
          let q = p.0 in
          let a = stands_one q.stands v s p.1 in
          let b = p.1 in
          let d : q.third ≡ c = let e = a.tree in cc in
          let lo = a.low in
          ⊎_elim (λ (e : k ≡ q.place + 1). inl (inr (omega arith))) (λ (e : k ≡ q.place + 2 * (q.third - q.low)). inr (omega arith)) q.child)
          (newly_known t f u x y k w known)

      -- Both writes are of the right record, so nothing that was right is lost.
      pub passed_node : (r₁ r₂ : Side) → r₁ ≡ new_side [] (side (side_at xs i).low c) → r₂ ≡ new_side [] (side c (side_at xs i).high)
          → Passed n links (i + 1) (set (set xs (i + 1) r₁) (i + 2 * (c - (side_at xs i).low)) r₂)
      passed_node r₁ r₂ e₁ e₂ t f u x y k w known =
          let s = filled_spans (joins links) t 0 (n - 1) f in
          let z = ring_standing n t enough s i within in
          let v = node_from t f z.tree z.low z.high z.stands in
          let m = read_within in
          let a = third.above in
          let b = third.below in
          let h₂ : i + 2 * (c - (side_at xs i).low) < length (set xs (i + 1) r₁) = simp length-set (omega arith) in
          let one : (side_at xs k ≡ new_side [] (side x y)) ⊎ (k ≡ i + 1) → side_at (set xs (i + 1) r₁) k ≡ new_side [] (side x y)
          = put_right t s xs u v.0 x y (side_at xs i).low c k (i + 1) r₁ w (stands_left v.2) e₁ (omega arith) in
          put_right t s (set xs (i + 1) r₁) u v.1 x y c (side_at xs i).high k (i + 2 * (c - (side_at xs i).low)) r₂ w (stands_right v.2) e₂ h₂
          (⊎_elim
          (λ (o : (side_at xs k ≡ new_side [] (side x y)) ⊎ (k ≡ i + 1)). inl (one o))
          (λ (o : k ≡ i + 2 * (c - (side_at xs i).low)). inr o)
          (children_known t f u v.0 v.1 x y k w v.2 known))

      pub node_rest : (r₁ r₂ : Side) → drop (side_count n) (set (set xs (i + 1) r₁) (i + 2 * (c - (side_at xs i).low)) r₂) ≡ drop (side_count n) xs
      node_rest r₁ r₂ =
          let m = read_within in
          let a = third.above in
          let b = third.below in
          drop-set-lt (side_count n) (set xs (i + 1) r₁) (i + 2 * (c - (side_at xs i).low)) r₂ (omega arith)
          ∙ drop-set-lt (side_count n) xs (i + 1) r₁ (omega arith)

  -- At the end every place is known, and so holds its side.
  pub passed_all : (xs ys : List Side) (i : ℕ) → side_count n ≤ i → Passed n links i ys → side_count n ≤ length ys → drop (side_count n) ys ≡ drop (side_count n) xs → FilledWith n links [] xs ys
  passed_all xs ys i h P long rest =
      let f = some_fill (joins links) n enough in
      let s = filled_spans (joins links) f.0 0 (n - 1) f.1 in
      filled_from n links [] f.0 xs ys enough f.1 long (λ k l.
      let w = ring_standing n f.0 enough s k l in
      P f.0 f.1 w.tree w.low w.high k w.stands (known_here f.0 s w.tree w.low w.high k i w.stands (omega arith))
      ∙ ap (new_side []) (sym (stands_side w.stands s k (side 0 0) (add-zero k)))) rest
