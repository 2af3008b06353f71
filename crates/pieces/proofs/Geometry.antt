-- A seam parts the lanes of a piece and hands its edge terminals on.
-- Assumes the ends of a filled ring in preorder and a division of it.
use Rattle.std.proofs.Common.{◌≡◌, ℕ, ◌+◌, ◌*◌, ◌<◌, ◌≤◌, List, sym, refl, ap, subst, inl, inr, ⊎_elim, arith}
use Rattle.records.specs.declared.Piece.{Piece}
use Rattle.records.specs.Few.{listed, Among}
use Rattle.pieces.specs.Sides.{Ends, span, Filled, Inside, Belongs}
use Rattle.pieces.specs.Holding.{piece_at, Holds, bounds, BoundingSeam}
use Rattle.pieces.specs.Holding.Above.{higher}
use Rattle.pieces.specs.Division.{Division, CutInTwo}
use Rattle.pieces.specs.Geometry.{NotBetween, SeamsPartLanes}
use Rattle.pieces.proofs.Tree.{Fit, root_fits, inside_fits, inside_trans, child_inside, parent_inside, lie}
use Rattle.pieces.proofs.Places.{preorder, ends_between, ends_before}
use Rattle.pieces.proofs.Parts.{Held}
use Rattle.pieces.proofs.Shown.{shown_holds}
use Rattle.pieces.proofs.Clauses.{itself}
use Rattle.pieces.proofs.Known.{bounds_cases}

module _ (n : ℕ) (e : Ends) (fl : Filled n e) where
  pub in_root : (i : ℕ) → i + 3 < 2 * n → Fit n (span e) i
  in_root i r =
      let pre = preorder n e fl in
      let root = pre.root in
      inside_fits n (span e) pre 0 i (root_fits n (span e) pre) (omega arith, omega arith)

  -- the ends of a side that is not below s are not strictly between the ends of s
  not_between : (s i : ℕ) → s + 3 < 2 * n → i + 3 < 2 * n → (Inside (span e) s i → ⊥) → NotBetween (e.low s) (e.high s) (e.low i) × NotBetween (e.low s) (e.high s) (e.high i)
  not_between s i rs ri out =
      let si = fl.rising i ri in
      let ss = fl.rising s rs in
      ⊎_elim (λ k. absurd (out k))
      (λ o. ⊎_elim
      (λ k. let b = ends_between n e fl i s (in_root i ri) k in (inl b.0, inr b.1))
      (λ q. ⊎_elim
      (λ k. let b = ends_before n e fl s i rs ri k in (inr b, inr (omega arith)))
      (λ k. let b = ends_before n e fl i s ri rs k in (inl (omega arith), inl b)) q) o)
      (lie n (span e) (preorder n e fl) s i)

  holds_is : (P : Piece) (b : ℕ) → Holds (span e) P b → Held (span e) P.top (listed P.holes) b
  holds_is P b h = shown_holds (span e) P P.top (listed P.holes) P.level P.parent (itself P) b h

  module _ (ps : List Piece) (d : Division n e ps) (p : ℕ) (r : p + 5 < 2 * n) (P A B : Piece) (c : CutInTwo n (span e) p P A B) (at : P ≡ piece_at ps p) where
    seam_range : P.seam + 3 < 2 * n
    seam_range =
        let t = subst (λ (x : Piece). x.top + 3 < 2 * n) (sym at) (d.stands p r).top_in_range in
        let h = holds_is P P.seam c.inner.on_it in
        omega (arith, in_root P.top t, h.1.1)

    -- the seam is not the top: it is a child of a base of the piece
    seam_below : P.top < P.seam
    seam_below =
        let t = subst (λ (x : Piece). x.top + 3 < 2 * n) (sym at) (d.stands p r).top_in_range in
        let i = c.inner in
        let h = holds_is P i.base_above i.above_it in
        let f = inside_fits n (span e) (preorder n e fl) P.top i.base_above (in_root P.top t) h.1 in
        omega (arith, h.1.0, (child_inside n (span e) (preorder n e fl) i.base_above P.seam f i.child_of_it).2)

    inner : (i b : ℕ) → i + 3 < 2 * n → Belongs (span e) i b → Holds (span e) A b → (e.low P.seam ≤ e.low i) × (e.high i ≤ e.high P.seam)
    inner i b ri own h =
        let pre = preorder n e fl in
        let k = subst (λ t. Inside (span e) t b) c.first_top (holds_is A b h).1 in
        let fs = in_root P.seam seam_range in
        let fb = inside_fits n (span e) pre P.seam b fs k in
        let into : Inside (span e) P.seam i =
        ⊎_elim (λ q. subst (Inside (span e) P.seam) q.1 k)
        (λ q. inside_trans n (span e) pre P.seam b i fs k (child_inside n (span e) pre b i fb q.1).0) own in
        ends_between n e fl P.seam i fs into

    outer : (i b : ℕ) → i + 3 < 2 * n → Belongs (span e) i b → Holds (span e) B b → (Inside (span e) P.seam i → ⊥)
    outer i b ri own h into =
        let pre = preorder n e fl in
        let k = holds_is B b h in
        let base = (holds_is P P.seam c.inner.on_it).0 in
        let hole : Among P.seam (listed B.holes) =
        ⊎_elim (λ q. absurd (omega (arith, q.0, c.second_top, seam_below))) (λ q. q) (bounds_cases B.top (listed B.holes) P.seam c.seam_bounds_second) in
        let t : B.top + 3 < 2 * n = subst (λ x. x + 3 < 2 * n) (sym c.second_top) (subst (λ (x : Piece). x.top + 3 < 2 * n) (sym at) (d.stands p r).top_in_range) in
        let fb = inside_fits n (span e) pre B.top b (in_root B.top t) k.1 in
        ⊎_elim
        (λ q. k.2 P.seam hole (subst (Inside (span e) P.seam) (sym q.1) into))
        (λ q. ⊎_elim (λ s. omega (arith, q.0, ap (span e) s)) (λ w. k.2 P.seam hole w) (parent_inside n (span e) pre b i P.seam fb q.1 into)) own

  -- a bounding seam of a piece bounds the part that has a triangle on it
  passed_seam : (ps : List Piece) → Division n e ps → (p c t : ℕ) → 0 < c → (piece_at ps c).parent ≡ p → (w : BoundingSeam (span e) ps p (piece_at ps p) t) → c + 5 < 2 * n → Holds (span e) (piece_at ps c) w.triangle → Among t (bounds (piece_at ps c))
  passed_seam ps d p c t z up w rc h =
      (d.stands c rc).seams_listed t
      (record { cut_piece = w.cut_piece; above = higher z up w.above; cut_along = w.cut_along; triangle = w.triangle; held_there = h; side = w.side })

pub seams_part_lanes : SeamsPartLanes
seams_part_lanes n e ps fl d p r c =
    let P = piece_at ps p in
    let A = piece_at ps P.first in
    let B = piece_at ps P.second in
    let o = c.in_order in
    let q = c.in_range in
    let f = c.first_number in
    let ra : P.first + 5 < 2 * n = omega arith in
    let rb : P.second + 5 < 2 * n = q in
    let sa = d.stands P.first ra in
    let sb = d.stands P.second rb in
    let rs = seam_range n e fl ps d p r P A B c refl in
    record {
      rising = fl.rising P.seam rs;
      inner_lanes = λ i b ri own h. inner n e fl ps d p r P A B c refl i b ri own h;
      outer_lanes = λ i b ri own h. not_between n e fl P.seam i rs ri (outer n e fl ps d p r P A B c refl i b ri own h);
      edges_passed = λ z m.
          let w = (d.stands p r).edge_terminals.only z m in
          let t = w.of_side in
          let s = (d.stands p r).seams_only t w.listed_there in
          ⊎_elim
          (λ h. inl (sa.edge_terminals.all z (record { of_side = t; listed_there = passed_seam n e fl ps d p P.first t (omega arith) c.first_parent s ra h; low_or_high = w.low_or_high })))
          (λ h. inr (sb.edge_terminals.all z (record { of_side = t; listed_there = passed_seam n e fl ps d p P.second t (omega arith) c.second_parent s rb h; low_or_high = w.low_or_high })))
          (c.parts.covered s.triangle s.held_there);
      x_edge = (
        sa.edge_terminals.all (e.low P.seam) (record { of_side = P.seam; listed_there = c.seam_bounds_first; low_or_high = inl refl }),
        sb.edge_terminals.all (e.low P.seam) (record { of_side = P.seam; listed_there = c.seam_bounds_second; low_or_high = inl refl }),
      );
      y_edge = (
        sa.edge_terminals.all (e.high P.seam) (record { of_side = P.seam; listed_there = c.seam_bounds_first; low_or_high = inr refl }),
        sb.edge_terminals.all (e.high P.seam) (record { of_side = P.seam; listed_there = c.seam_bounds_second; low_or_high = inr refl }),
      );
    }
