-- What is known of a piece from the cuts above it, and how it passes on to the two parts of the piece.
-- Assumes that the lengths are those of a filled ring in preorder.
use Rattle.std.proofs.Common.{◌≡◌, ℕ, ◌+◌, ◌*◌, ◌<◌, ◌≤◌, eqb, ◌⊎◌, List, ◌∷◌, sym, refl, ap, ◌∙◌, subst, inl, inr, ⊎_elim, arith}
use Rattle.std.proofs.lemmas.Bool.{cases_Bool, cond-true, cond-false, eqb-false, ne_eqb}
use Rattle.records.specs.declared.Piece.{Piece}
use Rattle.pieces.specs.Sides.{Preorder, Inside, Child, SideOf}
use Rattle.records.specs.Few.{Among}
use Rattle.pieces.specs.Cuts.{triangles, seams, four}
use Rattle.pieces.specs.Holding.{piece_at, Above}
use Rattle.pieces.specs.Holding.Above.{parent, higher}
use Rattle.pieces.proofs.Tree.{Fit, inside_fits, inside_trans, child_inside, parent_inside}
use Rattle.pieces.proofs.Tree.{parent as parent_below}
use Rattle.pieces.proofs.Weights.{Sound, hole_inside}
use Rattle.pieces.proofs.Seam.{Cut}
use Rattle.pieces.proofs.Parts.{inner_list, outer_list, Held, among_inner, inner_among, among_outer, outer_among, seam_among, inner_held, outer_held, inner_sound, outer_sound, sizes_add}
use Rattle.pieces.proofs.Shares.{inner_left, outer_left}
use Rattle.pieces.proofs.DepthBound.{Deep, deep_part}
use Rattle.pieces.proofs.RimEnds.{bounds_of}

pub bounds_hole : (top : ℕ) (hs : List ℕ) (s : ℕ) → Among s hs → Among s (bounds_of top hs)
bounds_hole top hs s m =
    ⊎_elim (λ t. subst (λ xs. Among s xs) (sym (cond-true (eqb top 0) hs (top ∷ hs) t)) m)
    (λ t. subst (λ xs. Among s xs) (sym (cond-false (eqb top 0) hs (top ∷ hs) t)) (inr m)) (cases_Bool (eqb top 0))

pub bounds_top : (top : ℕ) (hs : List ℕ) → 0 < top → Among top (bounds_of top hs)
bounds_top top hs l = subst (λ xs. Among top xs) (sym (cond-false (eqb top 0) hs (top ∷ hs) (ne_eqb top 0 (λ e. omega arith)))) (inl refl)

pub bounds_cases : (top : ℕ) (hs : List ℕ) (s : ℕ) → Among s (bounds_of top hs) → ((s ≡ top) × (0 < top)) ⊎ Among s hs
bounds_cases top hs s m =
    ⊎_elim (λ t. inr (subst (λ xs. Among s xs) (cond-true (eqb top 0) hs (top ∷ hs) t) m))
    (λ t. let other = eqb-false top 0 t in ⊎_elim (λ e. inl (e, omega arith)) (λ k. inr k) (subst (λ xs. Among s xs) (cond-false (eqb top 0) hs (top ∷ hs) t) m))
    (cases_Bool (eqb top 0))

above_child : (ps : List Piece) (a q p : ℕ) → Above ps a q → (piece_at ps q).parent ≡ p → (a ≡ p) ⊎ Above ps a p
above_child ps a q p (parent z e) f = inl (sym e ∙ f)
above_child ps a q p (higher z e r) f = inr (subst (λ x. Above ps a x) (sym e ∙ f) r)

pub record Known (n : ℕ) (len : ℕ → ℕ) (ps : List Piece) (p top : ℕ) (hs : List ℕ) (level par : ℕ) : Type 0 where
  pub sound : Sound n len top hs
  -- a seam cut above that is a side of one of the piece's triangles is one of its bounds
  pub complete : (a : ℕ) → Above ps a p → (b : ℕ) → Held len top hs b → SideOf len b (piece_at ps a).seam → Among (piece_at ps a).seam (bounds_of top hs)
  pub cut_above : (s : ℕ) → Among s (bounds_of top hs) → (a : ℕ) × (Above ps a p × ((piece_at ps a).seam ≡ s))
  pub hole_sides : (h : ℕ) → Among h hs → (b : ℕ) × (Held len top hs b × Child len b h)
  pub deep : Deep level (triangles len hs top) (seams top hs)
  pub under_parent : 0 < p → (par < p) × (((piece_at ps par).first ≡ p) ⊎ ((piece_at ps par).second ≡ p))
  pub range : p + 2 * triangles len hs top + 4 ≤ 2 * n

module _ (n : ℕ) (len : ℕ → ℕ) (pre : Preorder n len) (ps : List Piece) (p top : ℕ) (hs : List ℕ) (level par : ℕ)
    (k : Known n len ps p top hs level par) (two : 2 ≤ triangles len hs top) (v : ℕ) (c : Cut len top hs (four top hs) v) (seam : (piece_at ps p).seam ≡ v) where
  fits : (b : ℕ) → Held len top hs b → Fit n len b
  fits b h = inside_fits n len pre top b k.sound.fit h.1

  itself : (b : ℕ) → 2 ≤ len b → Inside len b b
  itself b l = (omega arith, omega arith)

  under : (q : ℕ) → 0 < q → (piece_at ps q).parent ≡ p → (s : ℕ) → Among s (bounds_of top hs) → (a : ℕ) × (Above ps a q × ((piece_at ps a).seam ≡ s))
  under q z f s m = let r = k.cut_above s m in (r.0, (higher z f r.1.0, r.1.1))

  pub known_first : (piece_at ps p).first ≡ p + 1 → (piece_at ps (p + 1)).parent ≡ p → Known n len ps (p + 1) v (inner_list len v hs) (level + 1) p
  known_first number f =
      let s = k.sound in
      record {
        sound = inner_sound n len pre top hs s v c;
        complete = λ a ab b h side. ⊎_elim
            (λ e. subst (λ x. Among x (bounds_of v (inner_list len v hs))) (sym (ap (λ x. (piece_at ps x).seam) e ∙ seam)) (bounds_top v (inner_list len v hs) (omega (arith, c.below))))
            (λ up.
            let w = inner_held n len pre top hs s v c b h in
            let x = (piece_at ps a).seam in
            ⊎_elim
            (λ t. ⊎_elim (λ e. absurd (omega (arith, t.0, h.1.0, c.below))) (λ ch. absurd (omega (arith, t.0, (child_inside n len pre b x (fits b w) ch).2, h.1.0, c.below))) side)
            (λ m. ⊎_elim (λ e. absurd (w.2 x m (subst (λ y. Inside len y b) (sym e) (itself b w.0))))
            (λ ch. bounds_hole v (inner_list len v hs) x (inner_among n len pre top hs s v c x m (inside_trans n len pre v b x (inside_fits n len pre top v s.fit c.inside) h.1 (child_inside n len pre b x (fits b w) ch).0))) side)
            (bounds_cases top hs x (k.complete a up b w side)))
            (above_child ps a (p + 1) p ab f);
        cut_above = λ x m. ⊎_elim
            (λ t. (p, (parent (omega arith) f, seam ∙ sym t.0)))
            (λ q. under (p + 1) (omega arith) f x (bounds_hole top hs x (among_inner n len pre top hs s v c x q).0))
            (bounds_cases v (inner_list len v hs) x m);
        hole_sides = λ h m.
            let q = among_inner n len pre top hs s v c h m in
            let r = k.hole_sides h q.0 in
            let b = r.0 in
            let w = r.1.0 in
            ⊎_elim
            (λ e. absurd (c.clear h q.0 (subst (λ y. Inside len y v) e (itself v c.base))))
            (λ i. (b, ((w.0, i, λ y o j. w.2 y (among_inner n len pre top hs s v c y o).0 j), r.1.1)))
            (parent_inside n len pre b h v (fits b w) r.1.1 q.1);
        deep = deep_part level (triangles len hs top) (seams top hs) (triangles len (inner_list len v hs) v) (seams v (inner_list len v hs)) k.deep two s.few (inner_left n len pre top hs s v c);
        under_parent = λ _. (omega arith, inl number);
        range = omega (arith, k.range, sizes_add n len pre top hs s v c, (outer_left n len pre top hs s v c).some);
      }

  pub known_second : (q : ℕ) → q ≡ p + 2 * triangles len (inner_list len v hs) v → (piece_at ps p).second ≡ q → (piece_at ps q).parent ≡ p → Known n len ps q top (outer_list len v hs) (level + 1) p
  known_second q at number f =
      let s = k.sound in
      let some = (inner_left n len pre top hs s v c).some in
      let pos : 0 < q = omega arith in
      record {
        sound = outer_sound n len pre top hs s v c;
        complete = λ a ab b h side. ⊎_elim
            (λ e. subst (λ x. Among x (bounds_of top (outer_list len v hs))) (sym (ap (λ x. (piece_at ps x).seam) e ∙ seam)) (bounds_hole top (outer_list len v hs) v (seam_among n len pre top hs s v c)))
            (λ up.
            let w = outer_held n len pre top hs s v c b h in
            let x = (piece_at ps a).seam in
            ⊎_elim
            (λ t. subst (λ y. Among y (bounds_of top (outer_list len v hs))) (sym t.0) (bounds_top top (outer_list len v hs) t.1))
            (λ m. bounds_hole top (outer_list len v hs) x (outer_among n len pre top hs s v c x m
            (λ i. ⊎_elim (λ e. w.2 x m (subst (λ y. Inside len y b) (sym e) (itself b w.0)))
            (λ ch. ⊎_elim (λ e. c.clear x m (subst (λ y. Inside len y v) e (itself v c.base))) (λ j. h.2 v (seam_among n len pre top hs s v c) j)
            (parent_inside n len pre b x v (fits b w) ch i)) side)))
            (bounds_cases top hs x (k.complete a up b w side)))
            (above_child ps a q p ab f);
        cut_above = λ x m. ⊎_elim
            (λ t. under q pos f x (subst (λ y. Among y (bounds_of top hs)) (sym t.0) (bounds_top top hs t.1)))
            (λ o. ⊎_elim (λ e. (p, (parent pos f, seam ∙ sym e))) (λ r. under q pos f x (bounds_hole top hs x r.0)) (among_outer n len pre top hs s v c x o))
            (bounds_cases top (outer_list len v hs) x m);
        hole_sides = λ h m. ⊎_elim
            (λ e.
            let r = parent_below n len pre top v s.fit c.inside (λ z. omega (arith, c.below)) in
            let b = r.0 in
            let fb = inside_fits n len pre top b s.fit r.1.0 in
            let ci = child_inside n len pre b v fb r.1.1 in (
              b,
              (
                (
                  r.1.1.base,
                  r.1.0,
                  λ y o j. ⊎_elim
                      (λ z. omega (arith, z, j.0, ci.2))
                      (λ z. c.clear y z.0 (inside_trans n len pre y b v (inside_fits n len pre top y s.fit (hole_inside n len pre top hs s y z.0)) j ci.0))
                      (among_outer n len pre top hs s v c y o),
                ),
                subst (Child len b) (sym e) r.1.1,
              ),
            ))
            (λ z.
            let r = k.hole_sides h z.0 in
            let b = r.0 in
            let w = r.1.0 in (
              b,
              (
                (
                  w.0,
                  w.1,
                  λ y o j. ⊎_elim
                      (λ u. z.1 (inside_trans n len pre v b h (inside_fits n len pre top v s.fit c.inside) (subst (λ i. Inside len i b) u j) (child_inside n len pre b h (fits b w) r.1.1).0))
                      (λ u. w.2 y u.0 j)
                      (among_outer n len pre top hs s v c y o),
                ),
                r.1.1,
              ),
            ))
            (among_outer n len pre top hs s v c h m);
        deep = deep_part level (triangles len hs top) (seams top hs) (triangles len (outer_list len v hs) top) (seams top (outer_list len v hs)) k.deep two s.few (outer_left n len pre top hs s v c);
        under_parent = λ _. (omega arith, inr number);
        range = omega (arith, k.range, sizes_add n len pre top hs s v c);
      }
