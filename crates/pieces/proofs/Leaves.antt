-- After the marking every side names the uncut piece that holds the triangle its lanes belong to.
-- Assumes the sides of a filled ring in preorder and a division of it.
use Rattle.std.proofs.Common.{◌≡◌, ℕ, zero, suc, ◌+◌, ◌-◌, ◌*◌, ◌<◌, ◌≤◌, eqb, List, [], length, get_or, take, sym, refl, ap, ◌∙◌, subst, inl, inr, ⊎_elim, arith}
use Rattle.std.proofs.lemmas.Bool.{cases_lt, cases_eq, cases_Bool, cond-true, cond-false, eqb-true, eqb-false}
use Rattle.ring.specs.declared.Side.{Side}
use Rattle.records.specs.declared.Piece.{Piece}
use Rattle.records.specs.Few.{listed}
use Rattle.pieces.specs.Sides.{Ends, ends_of, lengths, span, no_side, Filled, Preorder, Inside, Belongs}
use Rattle.pieces.specs.Holding.{piece_at, Holds}
use Rattle.pieces.specs.Division.{Division, Uncut, LeafMarked, LeavesMarked}
use Rattle.pieces.specs.Marks.{mark_triangle, mark_all}
use Rattle.pieces.proofs.Tree.{Fit, root_fits, inside_fits, child_inside, parent_inside}
use Rattle.pieces.proofs.Tree.{parent as parent_below}
use Rattle.pieces.proofs.Places.{preorder}
use Rattle.pieces.proofs.Shown.{shown_holds, holds_shown}
use Rattle.pieces.proofs.Clauses.{itself}
use Rattle.pieces.proofs.Holders.{one_uncut}
use Rattle.pieces.proofs.Marking.{same_lengths, same_count, all_same, triangle_on, triangle_off}

-- a side's lanes belong to one triangle
pub belongs_once : (n : ℕ) (len : ℕ → ℕ) → Preorder n len → (i b c : ℕ) → Fit n len b → Fit n len c → Belongs len i b → Belongs len i c → b ≡ c
belongs_once n len pre i b c fb fc (inl h) (inl k) = h.1 ∙ sym k.1
belongs_once n len pre i b c fb fc (inl h) (inr k) = absurd (omega (arith, h.0, k.0))
belongs_once n len pre i b c fb fc (inr h) (inl k) = absurd (omega (arith, h.0, k.0))
belongs_once n len pre i b c fb fc (inr h) (inr k) =
    let x = child_inside n len pre b i fb h.1 in
    let y = child_inside n len pre c i fc k.1 in
    let u : Inside len c b = ⊎_elim (λ e. absurd (omega (arith, y.2))) (λ z. z) (parent_inside n len pre b i c fb h.1 y.0) in
    let v : Inside len b c = ⊎_elim (λ e. absurd (omega (arith, x.2))) (λ z. z) (parent_inside n len pre c i b fc k.1 x.0) in
    omega (arith, u.0, v.0)

module _ (n : ℕ) (ss : List Side) (fl : Filled n (ends_of ss)) (ps : List Piece) (d : Division n (ends_of ss) ps) where
  -- the triangle of a side
  triangle_of : (i : ℕ) → i + 3 < 2 * n → (b : ℕ) × (Belongs (lengths ss) i b × (2 ≤ lengths ss b) × Inside (lengths ss) 0 b)
  triangle_of i r =
      let pre = preorder n (ends_of ss) fl in
      let root = pre.root in
      let least = fl.least in
      let rises = pre.rises i r in
      let in0 : Inside (lengths ss) 0 i = (omega arith, omega arith) in
      ⊎_elim
      (λ u.
      let ne : 0 ≡ i → ⊥ = λ s. omega (arith, ap (lengths ss) s) in
      let p = parent_below n (lengths ss) pre 0 i (root_fits n (lengths ss) pre) in0 ne in
      (p.0, (inr (omega arith, p.1.1), p.1.1.base, p.1.0)))
      (λ u. (i, (inl (u, refl), u, in0)))
      (cases_lt (lengths ss i) 2)

  whole_holds : (b : ℕ) → 2 ≤ lengths ss b → Inside (lengths ss) 0 b → Holds (lengths ss) (piece_at ps 0) b
  whole_holds b base into =
      let w = d.whole_plan in
      let P = piece_at ps 0 in
      holds_shown (lengths ss) P 0 [] P.level P.parent
      (record { top_is = w.root_side; holes_are = ap (λ k. take k P.holes.at) w.no_holes; level_is = refl; parent_is = refl })
      b (base, into, λ h m i. absurd m)

  -- from a piece that holds a triangle down to the uncut one that does
  find_leaf : (g p b : ℕ) → 2 * n ≤ p + g → p + 5 < 2 * n → Holds (lengths ss) (piece_at ps p) b → (q : ℕ) × ((q + 5 < 2 * n) × Uncut n (lengths ss) (piece_at ps q) × Holds (lengths ss) (piece_at ps q) b)
  find_leaf zero p b l r h = absurd (omega arith)
  find_leaf (suc g) p b l r h =
      ⊎_elim (λ u. (p, (r, u, h)))
      (λ c.
      let f = c.first_number in
      let o = c.in_order in
      let z = c.in_range in
      ⊎_elim
      (λ k. find_leaf g (piece_at ps p).first b (omega arith) (omega arith) k)
      (λ k. find_leaf g (piece_at ps p).second b (omega arith) z k)
      (c.parts.covered b h))
      (d.stands p r).cut

  top_fits : (q : ℕ) → q + 5 < 2 * n → Uncut n (lengths ss) (piece_at ps q) → Fit n (lengths ss) (piece_at ps q).top × (2 ≤ lengths ss (piece_at ps q).top)
  top_fits q r u =
      let pre = preorder n (ends_of ss) fl in
      let root = pre.root in
      let P = piece_at ps q in
      let h = shown_holds (lengths ss) P P.top (listed P.holes) P.level P.parent (itself P) P.top u.its_base in
      let t = (d.stands q r).top_in_range in
      (inside_fits n (lengths ss) pre 0 P.top (root_fits n (lengths ss) pre) (omega arith, omega arith), h.0)

  uncut_from : (q : ℕ) → q + 5 < 2 * n → (piece_at ps q).first ≡ 0 → Uncut n (lengths ss) (piece_at ps q)
  uncut_from q r z = ⊎_elim (λ u. u) (λ c. absurd (omega (arith, c.first_number))) (d.stands q r).cut

  module _ (long : 2 * n ≤ length ss + 3) where
    -- the uncut pieces below m have marked their sides
    marks : (m : ℕ) → m + 5 ≤ 2 * n → (q : ℕ) → q < m → q + 5 < 2 * n → (piece_at ps q).first ≡ 0 → (i : ℕ) → i + 3 < 2 * n → Belongs (lengths ss) i (piece_at ps q).top → (get_or (mark_all ss ps m) i no_side).leaf ≡ q
    unfolding mark_all
    marks zero lm q l r z i ri own = absurd (omega arith)
    marks (suc m) lm q l r z i ri own =
        let xs = mark_all ss ps m in
        let same = all_same ss ps m in
        let P = piece_at ps m in
        let len = same_lengths ss xs same in
        let count = same_count ss xs same in
        let rm : m + 5 < 2 * n = omega arith in
        ⊎_elim
        (λ t.
        let u = uncut_from m rm (eqb-true P.first 0 t) in
        let tf = top_fits m rm u in
        let pre' : Preorder n (lengths xs) = subst (Preorder n) (sym len) (preorder n (ends_of ss) fl) in
        let fit' : Fit n (lengths xs) P.top = subst (λ (f : ℕ → ℕ). Fit n f P.top) (sym len) tf.0 in
        let base' : 2 ≤ lengths xs P.top = subst (λ (f : ℕ → ℕ). 2 ≤ f P.top) (sym len) tf.1 in
        ap (λ (ys : List Side). (get_or ys i no_side).leaf) (cond-true (eqb P.first 0) (mark_triangle xs P.top m) xs t)
        ∙ ⊎_elim
        (λ s. triangle_on n xs pre' (omega arith) P.top m fit' base' i ri
        (subst (λ (f : ℕ → ℕ). Belongs f i P.top) (sym len) (subst (λ k. Belongs (lengths ss) i (piece_at ps k).top) s own)) ∙ sym s)
        (λ ne.
        triangle_off n xs pre' (omega arith) P.top m fit' base' i
        (λ k.
        let uq = uncut_from q r z in
        let tq = top_fits q r uq in
        let k' : Belongs (lengths ss) i P.top = subst (λ (f : ℕ → ℕ). Belongs f i P.top) len k in
        let e = belongs_once n (lengths ss) (preorder n (ends_of ss) fl) i (piece_at ps q).top P.top tq.0 tf.0 own k' in
        ne (one_uncut n (ends_of ss) ps d q m P.top r rm uq u (subst (Holds (lengths ss) (piece_at ps q)) e uq.its_base) u.its_base))
        ∙ marks m (omega arith) q (omega arith) r z i ri own)
        (cases_eq q m))
        (λ t.
        let ne : q ≡ m → ⊥ = λ s. eqb-false P.first 0 t (ap (λ k. (piece_at ps k).first) (sym s) ∙ z) in
        ap (λ (ys : List Side). (get_or ys i no_side).leaf) (cond-false (eqb P.first 0) (mark_triangle xs P.top m) xs t)
        ∙ marks m (omega arith) q (omega arith) r z i ri own)
        (cases_Bool (eqb P.first 0))

    pub leaves : LeavesMarked n (mark_all ss ps (2 * n - 5)) (lengths ss) ps
    leaves i r =
        let t = triangle_of i r in
        let least = fl.least in
        let f = find_leaf (2 * n) 0 t.0 (omega arith) (omega arith) (whole_holds t.0 t.1.1 t.1.2) in
        let q = f.0 in
        let u = f.1.1 in
        let is = marks (2 * n - 5) (omega arith) q (omega (arith, f.1.0)) f.1.0 u.no_first i r (subst (Belongs (lengths ss) i) (u.only_that t.0 f.1.2) t.1.0) in
        subst (LeafMarked n (lengths ss) ps i) (sym is)
        (record { triangle = t.0; belongs = t.1.0; in_range = f.1.0; uncut = u; holds_it = f.1.2 })

-- a side has one leaf piece
pub leaf_once : (n : ℕ) (e : Ends) → Filled n e → (ps : List Piece) → Division n e ps → (i l m : ℕ) → LeafMarked n (span e) ps i l → LeafMarked n (span e) ps i m → l ≡ m
leaf_once n e fl ps d i l m a b =
    let pre = preorder n e fl in
    let fits = λ (q t : ℕ) (r : q + 5 < 2 * n) (h : Holds (span e) (piece_at ps q) t).
    let P = piece_at ps q in
    let k = shown_holds (span e) P P.top (listed P.holes) P.level P.parent (itself P) t h in
    let top = (d.stands q r).top_in_range in
    let root = pre.root in
    inside_fits n (span e) pre P.top t (inside_fits n (span e) pre 0 P.top (root_fits n (span e) pre) (omega arith, omega arith)) k.1 in
    let same = belongs_once n (span e) pre i a.triangle b.triangle (fits l a.triangle a.in_range a.holds_it) (fits m b.triangle b.in_range b.holds_it) a.belongs b.belongs in
    one_uncut n e ps d l m b.triangle a.in_range b.in_range a.uncut b.uncut (subst (Holds (span e) (piece_at ps l)) same a.holds_it) b.holds_it
