-- What marking changes: the leaves of the sides that belong to the triangle, and nothing else.
-- Assumes that the lengths are those of a filled ring in preorder where children are spoken of.
use Rattle.std.proofs.Common.{◌≡◌, ℕ, zero, suc, ◌+◌, ◌*◌, ◌<◌, ◌≤◌, eqb, ◌≢◌, List, map, length, get_or, take, set, sym, refl, ap, ◌∙◌, subst, inl, inr, ⊎_elim, arith}
use mathlib.Core.Path.{fun_ext}
use Rattle.std.proofs.lemmas.List.{map-set, set-get_or, get_or-set_same, get_or-set_other, length-map, take-map}
use Rattle.std.proofs.Math.ListN.{get_or-map}
use Rattle.std.proofs.lemmas.Bool.{cases_eq, cases_Bool, cond-true, cond-false, cond_both, eqb-true, eq-eqb}
use Rattle.ring.specs.declared.Side.{Side}
use Rattle.records.specs.declared.Piece.{Piece}
use Rattle.pieces.specs.Sides.{Ends, ends_of, lengths, no_side, Preorder, Child, Belongs, right_of}
use Rattle.pieces.specs.Cuts.{left, right}
use Rattle.pieces.specs.Marks.{with_leaf, mark_one, mark_unit, mark_triangle, mark_piece, mark_all, bare, SameSides}
use Rattle.pieces.specs.Holding.{piece_at}
use Rattle.pieces.proofs.Tree.{Fit, halves}
use Rattle.pieces.proofs.Descent.{left_is, right_is}

abbrev leaf_at : List Side → ℕ → ℕ
leaf_at ss i = (get_or ss i no_side).leaf

-- the same sides at every place, and among the first m
pub same_at : (ss ss' : List Side) → SameSides ss ss' → (k : ℕ) → bare (get_or ss' k no_side) ≡ bare (get_or ss k no_side)
same_at ss ss' same k = sym (get_or-map bare ss' k no_side) ∙ ap (λ xs. get_or xs k no_side) same ∙ get_or-map bare ss k no_side

pub same_front : (m : ℕ) (ss ss' : List Side) → SameSides ss ss' → SameSides (take m ss) (take m ss')
same_front m ss ss' same = sym (take-map bare m ss') ∙ ap (take m) same ∙ take-map bare m ss

-- the ends are read off the sides without their leaves
pub same_ends : (ss ss' : List Side) → SameSides ss ss' → ends_of ss' ≡ ends_of ss
same_ends ss ss' same =
    λ i. record { low = lows i; high = highs i }
  where
    lows : (ends_of ss').low ≡ (ends_of ss).low
    lows = fun_ext (λ k. ap (λ (s : Side). s.low) (same_at ss ss' same k))

    highs : (ends_of ss').high ≡ (ends_of ss).high
    highs = fun_ext (λ k. ap (λ (s : Side). s.high) (same_at ss ss' same k))

pub same_lengths : (ss ss' : List Side) → SameSides ss ss' → lengths ss' ≡ lengths ss
same_lengths ss ss' same = ap (λ (e : Ends). Rattle.pieces.specs.Sides.span e) (same_ends ss ss' same)

pub same_count : (ss ss' : List Side) → SameSides ss ss' → length ss' ≡ length ss
same_count ss ss' same = sym (length-map ss' bare) ∙ ap length same ∙ length-map ss bare

one_same : (ss : List Side) (i q : ℕ) → SameSides ss (mark_one ss i q)
one_same ss i q =
    map-set bare ss i (with_leaf (get_or ss i no_side) q)
    ∙ ap (set (map bare ss) i) (sym (get_or-map bare ss i no_side))
    ∙ set-get_or (map bare ss) i no_side

unit_same : (ss : List Side) (i q : ℕ) → SameSides ss (mark_unit ss i q)
unit_same ss i q = cond_both (eqb (lengths ss i) 1) (mark_one ss i q) ss (SameSides ss) (λ _. one_same ss i q) (λ _. refl)

pub triangle_same : (ss : List Side) (b q : ℕ) → SameSides ss (mark_triangle ss b q)
triangle_same ss b q =
    unit_same (mark_unit (mark_one ss b q) (left b) q) (right (lengths ss) b) q ∙ unit_same (mark_one ss b q) (left b) q ∙ one_same ss b q

pub piece_same : (ss : List Side) (q : ℕ) (P : Piece) → SameSides ss (mark_piece ss q P)
piece_same ss q P = cond_both (eqb P.first 0) (mark_triangle ss P.top q) ss (SameSides ss) (λ _. triangle_same ss P.top q) (λ _. refl)

pub all_same : (ss : List Side) (ps : List Piece) (m : ℕ) → SameSides ss (mark_all ss ps m)
unfolding mark_all
all_same ss ps zero = refl
all_same ss ps (suc m) = piece_same (mark_all ss ps m) m (piece_at ps m) ∙ all_same ss ps m

-- one mark
one_on : (ss : List Side) (i q : ℕ) → i < length ss → leaf_at (mark_one ss i q) i ≡ q
one_on ss i q l = ap (λ (s : Side). s.leaf) (get_or-set_same ss i (with_leaf (get_or ss i no_side) q) no_side l)

one_off : (ss : List Side) (i q j : ℕ) → j ≢ i → leaf_at (mark_one ss i q) j ≡ leaf_at ss j
one_off ss i q j ne = ap (λ (s : Side). s.leaf) (get_or-set_other ss i j (with_leaf (get_or ss i no_side) q) no_side ne)

unit_on : (ss : List Side) (i q : ℕ) → i < length ss → lengths ss i ≡ 1 → leaf_at (mark_unit ss i q) i ≡ q
unit_on ss i q l u = ap (λ xs. leaf_at xs i) (cond-true (eqb (lengths ss i) 1) (mark_one ss i q) ss (eq-eqb (lengths ss i) 1 u)) ∙ one_on ss i q l

unit_off : (ss : List Side) (i q j : ℕ) → (j ≡ i → lengths ss i ≡ 1 → ⊥) → leaf_at (mark_unit ss i q) j ≡ leaf_at ss j
unit_off ss i q j no' =
    ⊎_elim
    (λ t. ap (λ xs. leaf_at xs j) (cond-true (eqb (lengths ss i) 1) (mark_one ss i q) ss t) ∙ one_off ss i q j (λ s. no' s (eqb-true (lengths ss i) 1 t)))
    (λ t. ap (λ xs. leaf_at xs j) (cond-false (eqb (lengths ss i) 1) (mark_one ss i q) ss t))
    (cases_Bool (eqb (lengths ss i) 1))

-- a mark with q leaves a leaf that is q
unit_keeps : (ss : List Side) (i q j : ℕ) → j < length ss → leaf_at ss j ≡ q → leaf_at (mark_unit ss i q) j ≡ q
unit_keeps ss i q j l is =
    cond_both (eqb (lengths ss i) 1) (mark_one ss i q) ss (λ xs. leaf_at xs j ≡ q)
    (λ _. ⊎_elim (λ s. subst (λ k. leaf_at (mark_one ss i q) k ≡ q) (sym s) (one_on ss i q (omega arith))) (λ ne. one_off ss i q j ne ∙ is) (cases_eq j i))
    (λ _. is)

module _ (n : ℕ) (ss : List Side) (pre : Preorder n (lengths ss)) (long : 2 * n ≤ length ss + 3) (b q : ℕ) (fit : Fit n (lengths ss) b) (base : 2 ≤ lengths ss b) where
  same1 : SameSides ss (mark_one ss b q)
  same1 = one_same ss b q

  same2 : SameSides ss (mark_unit (mark_one ss b q) (left b) q)
  same2 = unit_same (mark_one ss b q) (left b) q ∙ same1

  len1 : (i : ℕ) → lengths (mark_one ss b q) i ≡ lengths ss i
  len1 i = ap (λ (f : ℕ → ℕ). f i) (same_lengths ss (mark_one ss b q) same1)

  len2 : (i : ℕ) → lengths (mark_unit (mark_one ss b q) (left b) q) i ≡ lengths ss i
  len2 i = ap (λ (f : ℕ → ℕ). f i) (same_lengths ss (mark_unit (mark_one ss b q) (left b) q) same2)

  is_left : left b ≡ b + 1
  is_left = left_is b (omega (arith, pre.most))

  is_right : right (lengths ss) b ≡ right_of (lengths ss) b
  is_right = let s = halves n (lengths ss) pre b fit base in right_is (lengths ss) b (omega (arith, pre.most)) (omega (arith, pre.most))

  pub triangle_on : (i : ℕ) → i + 3 < 2 * n → Belongs (lengths ss) i b → leaf_at (mark_triangle ss b q) i ≡ q
  triangle_on i r (inl h) =
      let m1 = mark_one ss b q in
      let m2 = mark_unit m1 (left b) q in
      let l1 : leaf_at m1 i ≡ q = subst (λ k. leaf_at m1 k ≡ q) h.1 (one_on ss b q (omega (arith, h.1))) in
      unit_keeps m2 (right (lengths ss) b) q i (omega (arith, same_count ss m2 same2))
      (unit_keeps m1 (left b) q i (omega (arith, same_count ss m1 same1)) l1)
  triangle_on i r (inr h) =
      let m1 = mark_one ss b q in
      let m2 = mark_unit m1 (left b) q in
      let c1 = same_count ss m1 same1 in
      let c2 = same_count ss m2 same2 in
      ⊎_elim
      (λ s.
      let at : i ≡ left b = s ∙ sym is_left in
      unit_keeps m2 (right (lengths ss) b) q i (omega arith)
      (subst (λ k. leaf_at m2 k ≡ q) (sym at) (unit_on m1 (left b) q (omega arith) (len1 (left b) ∙ ap (lengths ss) (sym at) ∙ h.0))))
      (λ s.
      let at : i ≡ right (lengths ss) b = s ∙ sym is_right in
      subst (λ k. leaf_at (mark_triangle ss b q) k ≡ q) (sym at) (unit_on m2 (right (lengths ss) b) q (omega arith) (len2 (right (lengths ss) b) ∙ ap (lengths ss) (sym at) ∙ h.0)))
      h.1.which

  pub triangle_off : (i : ℕ) → (Belongs (lengths ss) i b → ⊥) → leaf_at (mark_triangle ss b q) i ≡ leaf_at ss i
  triangle_off i no' =
      let m1 = mark_one ss b q in
      let m2 = mark_unit m1 (left b) q in
      unit_off m2 (right (lengths ss) b) q i
      (λ s u. no' (inr (ap (lengths ss) s ∙ sym (len2 (right (lengths ss) b)) ∙ u, record { base = base; which = inr (s ∙ is_right) })))
      ∙ unit_off m1 (left b) q i
      (λ s u. no' (inr (ap (lengths ss) s ∙ sym (len1 (left b)) ∙ u, record { base = base; which = inl (s ∙ is_left) })))
      ∙ one_off ss b q i (λ s. no' (inl (subst (λ k. 2 ≤ lengths ss k) (sym s) base, sym s)))
