-- The clauses of a division at one record: a piece of one triangle, a piece that is cut, and what holds of both.
-- Assumes the ends of a filled ring in preorder, and what is known of the piece from the cuts above it.
use Rattle.std.proofs.Common.{◌≡◌, ℕ, ◌+◌, ◌-◌, ◌*◌, ◌<◌, ◌≤◌, Bool, eqb, ltb, ◌⊎◌, List, [], ◌∷◌, length, filter, sym, refl, ap, ◌∙◌, subst, inl, inr, ⊎_elim, arith}
use Rattle.std.proofs.lemmas.Bool.{cases_Bool, cond-true, cond-false, ne_eqb}
use Rattle.records.specs.declared.Piece.{Piece}
use Rattle.pieces.specs.Sides.{Ends, span, Filled, Preorder, Inside, SideOf}
use Rattle.records.specs.Few.{listed, Among, Pinned}
use Rattle.pieces.specs.Cuts.{triangles, seams, four, rim}
use Rattle.pieces.specs.Holding.{piece_at, Holds, holds, held, bounds, others}
use Rattle.pieces.specs.Division.{Uncut, InnerSide, CutInTwo, EdgeTerminals, PieceStands}
use Rattle.pieces.proofs.Tree.{inside_fits, child_inside, inside_trans}
use Rattle.pieces.proofs.Tree.{parent as parent_below}
use Rattle.pieces.proofs.Chosen.{among_kept}
use Rattle.pieces.proofs.Places.{preorder}
use Rattle.pieces.proofs.Weights.{Sound, top_clear, hole_inside}
use Rattle.pieces.proofs.Seam.{Cut}
use Rattle.pieces.proofs.Parts.{Held, inner_list, outer_list, behind, among_inner, inner_sound, outer_sound, held_parts, inner_held, outer_held, held_once, sizes_add, seam_among}
use Rattle.pieces.proofs.Shares.{sound_size, inner_left, outer_left}
use Rattle.pieces.proofs.DepthBound.{deep_row, deep_level}
use Rattle.pieces.proofs.RimEnds.{bounds_of, rim_lists}
use Rattle.pieces.proofs.Known.{Known, bounds_hole, bounds_top, bounds_cases}
use Rattle.pieces.proofs.Shown.{Shown, shown_holds, holds_shown, shown_bounds, shown_held, bounds_length, others_once, row_rises, count_only}

-- a record shows its own fields
pub itself : (D : Piece) → Shown D D.top (listed D.holes) D.level D.parent
itself D = record { top_is = refl; holes_are = refl; level_is = refl; parent_is = refl }

module _ (n : ℕ) (len : ℕ → ℕ) (pre : Preorder n len) (top : ℕ) (hs : List ℕ) (s : Sound n len top hs) where
  top_held : Held len top hs top
  top_held = (s.base, (omega arith, omega (arith, s.base)), top_clear n len pre top hs s)

  held_range : (b : ℕ) → Held len top hs b → b < 2 * n - 3
  held_range b h = omega (arith, s.fit, h.1.1)

  pub uncut : (D : Piece) (level par : ℕ) → Shown D top hs level par → triangles len hs top ≤ 1 → D.first ≡ 0 → D.second ≡ 0 → D.seam ≡ 0 → Uncut n len D
  uncut D level par w one a b c =
      let t = holds_shown len D top hs level par w top top_held in
      let is : held n len D ≡ 1 = shown_held len D top hs level par w n pre s ∙ omega (arith, sound_size n len pre top hs s) in
      record {
        one_triangle = is;
        its_base = subst (Holds len D) (sym w.top_is) t;
        only_that = λ x h. count_only (holds len D) x top (2 * n - 3) is h t (held_range x (shown_holds len D top hs level par w x h)) (held_range top top_held) ∙ sym w.top_is;
        no_first = a;
        no_second = b;
        no_seam = c;
      }

  module _ (v : ℕ) (c : Cut len top hs (four top hs) v) where
    apart_inner : (x : ℕ) → Among x (inner_list len v hs) → x ≡ v → ⊥
    apart_inner x m e =
        c.clear x (among_inner n len pre top hs s v c x m).0 (subst (λ y. Inside len y v) (sym e) (omega arith, omega (arith, c.base)))

    apart_kept : (f : ℕ → Bool) (x : ℕ) → Among x (filter f hs) → x ≡ v → ⊥
    apart_kept f x m e = c.clear x (among_kept f hs x m).0 (subst (λ y. Inside len y v) (sym e) (omega arith, omega (arith, c.base)))

    -- of the bounding seams of a part, all but the new one are old
    old_inner : length (others v (bounds_of v (inner_list len v hs))) + 1 ≡ seams v (inner_list len v hs)
    old_inner =
        let e = cond-false (eqb v 0) (inner_list len v hs) (v ∷ inner_list len v hs) (ne_eqb v 0 (λ z. omega (arith, c.below))) in
        omega (arith, ap (λ xs. length (others v xs)) e, ap length e, bounds_length v (inner_list len v hs), others_once v [] (inner_list len v hs) (λ x m. absurd m) apart_inner)

    old_outer : length (others v (bounds_of top (outer_list len v hs))) + 1 ≡ seams top (outer_list len v hs)
    old_outer =
        let os = outer_list len v hs in
        let xs = filter (λ h. ltb h v) hs in
        let ys = filter (behind len v) hs in
        ⊎_elim
        (λ t. let e = cond-true (eqb top 0) os (top ∷ os) t in
        omega (arith, ap (λ zs. length (others v zs)) e, ap length e, bounds_length top os, others_once v xs ys (apart_kept (λ h. ltb h v)) (apart_kept (behind len v))))
        (λ t. let e = cond-false (eqb top 0) os (top ∷ os) t in
        omega (
          arith,
          ap (λ zs. length (others v zs)) e,
          ap length e,
          bounds_length top os,
          others_once v (top ∷ xs) ys (λ x m z. ⊎_elim (λ q. omega (arith, c.below)) (λ q. apart_kept (λ h. ltb h v) x q z) m) (apart_kept (behind len v)),
        ))
        (cases_Bool (eqb top 0))

    inner_side : (D : Piece) (level par : ℕ) → Shown D top hs level par → InnerSide len D v
    inner_side D level par w =
        let r = parent_below n len pre top v s.fit c.inside (λ z. omega (arith, c.below)) in
        let b = r.0 in
        let fb = inside_fits n len pre top b s.fit r.1.0 in
        let ci = child_inside n len pre b v fb r.1.1 in
        record {
          on_it = holds_shown len D top hs level par w v (c.base, c.inside, c.clear);
          base_above = b;
          child_of_it = r.1.1;
          above_it = holds_shown len D top hs level par w b
              (r.1.1.base, r.1.0, λ h m i. c.clear h m (inside_trans n len pre h b v (inside_fits n len pre top h s.fit (hole_inside n len pre top hs s h m)) i ci.0));
        }

    pub cut_in_two : (p : ℕ) (D A B : Piece) (level par : ℕ) → Shown D top hs level par → Shown A v (inner_list len v hs) (level + 1) p → Shown B top (outer_list len v hs) (level + 1) p → D.seam ≡ v → D.first ≡ p + 1 → D.second ≡ p + 2 * triangles len (inner_list len v hs) v → p + 2 * triangles len hs top + 4 ≤ 2 * n → 2 ≤ triangles len hs top → CutInTwo n len p D A B
    cut_in_two p D A B level par w wa wb seam first second range two =
        let is = inner_list len v hs in
        let os = outer_list len v hs in
        let hd = shown_held len D top hs level par w n pre s in
        let ha = shown_held len A v is (level + 1) p wa n pre (inner_sound n len pre top hs s v c) in
        let hb = shown_held len B top os (level + 1) p wb n pre (outer_sound n len pre top hs s v c) in
        let li = inner_left n len pre top hs s v c in
        let lo = outer_left n len pre top hs s v c in
        let add = sizes_add n len pre top hs s v c in
        let bd = shown_bounds len D top hs level par w in
        let ba = shown_bounds len A v is (level + 1) p wa in
        let bb = shown_bounds len B top os (level + 1) p wb in
        let count = bounds_length top hs in
        record {
          several = omega arith;
          first_number = first;
          second_number = omega arith;
          in_order = omega (arith, li.some);
          in_range = omega (arith, lo.some);
          first_parent = wa.parent_is;
          second_parent = wb.parent_is;
          first_level = wa.level_is ∙ ap (λ x. x + 1) (sym w.level_is);
          second_level = wb.level_is ∙ ap (λ x. x + 1) (sym w.level_is);
          inner = subst (InnerSide len D) (sym seam) (inner_side D level par w);
          first_top = wa.top_is ∙ sym seam;
          second_top = wb.top_is ∙ sym w.top_is;
          parts = record {
            covered = λ b h. ⊎_elim (λ x. inl (holds_shown len A v is (level + 1) p wa b x)) (λ x. inr (holds_shown len B top os (level + 1) p wb b x)) (held_parts n len pre top hs s v c b (shown_holds len D top hs level par w b h));
            first_in = λ b h. holds_shown len D top hs level par w b (inner_held n len pre top hs s v c b (shown_holds len A v is (level + 1) p wa b h));
            second_in = λ b h. holds_shown len D top hs level par w b (outer_held n len pre top hs s v c b (shown_holds len B top os (level + 1) p wb b h));
            apart = λ b h k. held_once n len pre top hs s v c b (shown_holds len A v is (level + 1) p wa b h) (shown_holds len B top os (level + 1) p wb b k);
          };
          sizes = omega arith;
          four_seams = λ q.
              let q4 : seams top hs ≡ 4 = sym count ∙ sym (ap length bd) ∙ q in (
                subst (λ z. length (others z (bounds A)) ≡ 2) (sym seam) (ap (λ xs. length (others v xs)) ba ∙ omega (arith, old_inner, li.four_seams q4)),
                subst (λ z. length (others z (bounds B)) ≡ 2) (sym seam) (ap (λ xs. length (others v xs)) bb ∙ omega (arith, old_outer, lo.four_seams q4)),
              );
          fewer_seams = λ q.
              let q3 : seams top hs ≤ 3 = subst (λ m. m ≤ 3) (ap length bd ∙ count) q in
              (omega (arith, li.fewer_seams q3), omega (arith, lo.fewer_seams q3));
          seam_bounds_first = subst (λ z. Among z (bounds A)) (sym seam) (subst (λ xs. Among v xs) (sym ba) (bounds_top v is (omega (arith, c.below))));
          seam_bounds_second = subst (λ z. Among z (bounds B)) (sym seam) (subst (λ xs. Among v xs) (sym bb) (bounds_hole top os v (seam_among n len pre top hs s v c)));
        }

-- what holds of a record, whether its piece is cut or not
pub stands_by : (n : ℕ) (e : Ends) → Filled n e → (ps : List Piece) (p : ℕ) (D : Piece) → Known n (span e) ps p D.top (listed D.holes) D.level D.parent → Pinned D.holes → D.edges ≡ rim e D.top (listed D.holes) → Uncut n (span e) D ⊎ CutInTwo n (span e) p D (piece_at ps D.first) (piece_at ps D.second) → PieceStands n e ps p D
stands_by n e fl ps p D k pin rims cut =
    let pre = preorder n e fl in
    let top = D.top in
    let hs = listed D.holes in
    let s = k.sound in
    let w = itself D in
    let ls = rim_lists n e fl top hs s in
    let b = s.base in
    let fit = s.fit in
    record {
      child_of_parent = k.under_parent;
      cut = cut;
      seams_listed = λ x d. subst (λ y. Among y (bounds D)) d.cut_along
          (k.complete d.cut_piece d.above d.triangle (shown_holds (span e) D top hs D.level D.parent w d.triangle d.held_there) (subst (SideOf (span e) d.triangle) (sym d.cut_along) d.side));
      seams_only = λ x m.
          let r = k.cut_above x m in
          let t : (b : ℕ) × (Held (span e) top hs b × SideOf (span e) b x) =
          ⊎_elim (λ q. (top, ((b, (omega arith, omega arith), top_clear n (span e) pre top hs s), inl q.0)))
          (λ q. let z = k.hole_sides x q in (z.0, (z.1.0, inr z.1.1))) (bounds_cases top hs x m) in
          record {
            cut_piece = r.0;
            above = r.1.0;
            cut_along = r.1.1;
            triangle = t.0;
            held_there = holds_shown (span e) D top hs D.level D.parent w t.0 t.1.0;
            side = t.1.1;
          };
      at_most_four = omega (arith, bounds_length top hs, s.few);
      holes_rise = row_rises (span e) (top + 2) hs (top + 2 * span e top) (top + 1) (omega arith) s.row;
      top_in_range = omega arith;
      sides_in_range = λ x m. ⊎_elim (λ q. omega (arith, q.0)) (λ q. omega (arith, hole_inside n (span e) pre top hs s x q)) (bounds_cases top hs x m);
      edge_terminals = subst (λ f. EdgeTerminals e (record { parent = D.parent; first = D.first; second = D.second; seam = D.seam; top = D.top; holes = D.holes; edges = f; level = D.level })) (sym rims)
          (record { rising = ls.rising; all = ls.all; only = ls.only });
      holes_pinned = pin;
      edges_pinned = subst Pinned (sym rims) ls.pinned;
      within_row = λ j q. omega (arith, shown_held (span e) D top hs D.level D.parent w n pre s, deep_row D.level (triangles (span e) hs top) (seams top hs) j k.deep q);
      not_deeper = deep_level D.level (triangles (span e) hs top) (seams top hs) k.deep (sound_size n (span e) pre top hs s);
    }
