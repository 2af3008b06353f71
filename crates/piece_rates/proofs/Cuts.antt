-- In a division each cut piece has the shape that a climb asks for.
-- Assumes the ends of a filled ring in preorder and a division of it.
use Rattle.std.proofs.Common.{◌≡◌, ℕ, ◌+◌, ◌*◌, ◌<◌, ◌≤◌, ◌⊎◌, List, sym, subst, inl, inr, ⊎_elim, arith}
use Rattle.std.proofs.lemmas.Bool.{cases_eq}
use Rattle.records.specs.declared.Piece.{Piece}
use Rattle.records.specs.Few.{listed, Among}
use Rattle.pieces.specs.Sides.{Ends, span, Filled, Inside, Child, SideOf}
use Rattle.pieces.specs.Holding.{piece_at, Holds}
use Rattle.pieces.specs.Division.{Division, CutInTwo}
use Rattle.pieces.specs.Geometry.{PartedBySeam}
use Rattle.pieces.proofs.Tree.{Fit, inside_fits, inside_trans, child_inside, parent_inside, lie}
use Rattle.pieces.proofs.Places.{preorder, ends_between, ends_before}
use Rattle.pieces.proofs.Parts.{Held}
use Rattle.pieces.proofs.Shown.{shown_holds}
use Rattle.pieces.proofs.Clauses.{itself}
use Rattle.pieces.proofs.Known.{bounds_cases}
use Rattle.pieces.proofs.Geometry.{in_root, seams_part_lanes}
use Rattle.piece_rates.specs.Lanes.{RunsAlong}
use Rattle.piece_rates.specs.Climbing.{CutShape, Outside}
use Rattle.piece_rates.specs.Division.{CutsHaveShape}

module _ (n : ℕ) (e : Ends) (fl : Filled n e) where
  outside : (s i : ℕ) → s + 3 < 2 * n → i + 3 < 2 * n → (Inside (span e) s i → ⊥) → Outside (e.low s) (e.high s) (e.low i) × Outside (e.low s) (e.high s) (e.high i)
  outside s i rs ri out =
      let si = fl.rising i ri in
      let ss = fl.rising s rs in
      ⊎_elim (λ k. absurd (out k))
      (λ o. ⊎_elim
      (λ k. let b = ends_between n e fl i s (in_root n e fl i ri) k in (inl b.0, inr b.1))
      (λ q. ⊎_elim
      (λ k. let b = ends_before n e fl s i rs ri k in (inr b, inr (omega arith)))
      (λ k. let b = ends_before n e fl i s ri rs k in (inl (omega arith), inl b)) q) o)
      (lie n (span e) (preorder n e fl) s i)

  pub holds_is : (P : Piece) (b : ℕ) → Holds (span e) P b → Held (span e) P.top (listed P.holes) b
  holds_is P b h = shown_holds (span e) P P.top (listed P.holes) P.level P.parent (itself P) b h

  -- the two ends of a side that a lane runs along
  along_both : (Q : ℕ → Type 0) (i u v : ℕ) → RunsAlong e i u v → Q (e.low i) × Q (e.high i) → Q u × Q v
  along_both Q i u v r q =
      ⊎_elim (λ z. (subst Q (sym z.0) q.0, subst Q (sym z.1) q.1))
      (λ z. (subst Q (sym z.0) q.1, subst Q (sym z.1) q.0)) r

  module _ (ps : List Piece) (d : Division n e ps) (p : ℕ) (r : p + 5 < 2 * n) (c : CutInTwo n (span e) p (piece_at ps p) (piece_at ps (piece_at ps p).first) (piece_at ps (piece_at ps p).second)) where
    abbrev P : Piece
    P = piece_at ps p

    abbrev A : Piece
    A = piece_at ps P.first

    abbrev B : Piece
    B = piece_at ps P.second

    parted : PartedBySeam n e (e.low P.seam) (e.high P.seam) P A B
    parted = seams_part_lanes n e ps fl d p r c

    pub seam_range : P.seam + 3 < 2 * n
    seam_range =
        let h = holds_is P P.seam c.inner.on_it in
        omega (arith, in_root n e fl P.top (d.stands p r).top_in_range, h.1.1)

    pub seam_below : P.top < P.seam
    seam_below =
        let i = c.inner in
        let h = holds_is P i.base_above i.above_it in
        let f = inside_fits n (span e) (preorder n e fl) P.top i.base_above (in_root n e fl P.top (d.stands p r).top_in_range) h.1 in
        omega (arith, h.1.0, (child_inside n (span e) (preorder n e fl) i.base_above P.seam f i.child_of_it).2)

    pub first_range : P.first + 5 < 2 * n
    first_range = omega (arith, c.in_order, c.in_range)

    -- a side of a triangle that the first part holds lies at or below the seam
    pub inner_side : (b i : ℕ) → Holds (span e) A b → SideOf (span e) b i → (e.low P.seam ≤ e.low i) × (e.high i ≤ e.high P.seam)
    inner_side b i h own =
        let pre = preorder n e fl in
        let k = subst (λ t. Inside (span e) t b) c.first_top (holds_is A b h).1 in
        let fs = in_root n e fl P.seam seam_range in
        let fb = inside_fits n (span e) pre P.seam b fs k in
        let into : Inside (span e) P.seam i =
        ⊎_elim (λ q. subst (Inside (span e) P.seam) (sym q) k)
        (λ q. inside_trans n (span e) pre P.seam b i fs k (child_inside n (span e) pre b i fb q).0) own in
        ends_between n e fl P.seam i fs into

    -- a side of a triangle that the second part holds is the seam or does not lie below it
    pub outer_side : (b i : ℕ) → i + 3 < 2 * n → Holds (span e) B b → SideOf (span e) b i → Outside (e.low P.seam) (e.high P.seam) (e.low i) × Outside (e.low P.seam) (e.high P.seam) (e.high i)
    outer_side b i ri h own =
        let pre = preorder n e fl in
        let k = holds_is B b h in
        let hole : Among P.seam (listed B.holes) =
        ⊎_elim (λ q. absurd (omega (arith, q.0, c.second_top, seam_below))) (λ q. q) (bounds_cases B.top (listed B.holes) P.seam c.seam_bounds_second) in
        let fb = inside_fits n (span e) pre B.top b (in_root n e fl B.top (d.stands P.second c.in_range).top_in_range) k.1 in
        let far : (Inside (span e) P.seam b → ⊥) = k.2 P.seam hole in
        ⊎_elim
        (λ q. outside P.seam i seam_range ri (λ into. far (subst (Inside (span e) P.seam) q into)))
        (λ q. ⊎_elim
        (λ z. subst (λ w. Outside (e.low P.seam) (e.high P.seam) (e.low w) × Outside (e.low P.seam) (e.high P.seam) (e.high w)) z
        (inl (omega arith), inr (omega arith)))
        (λ z. outside P.seam i seam_range ri z)
        (seam_or_not b i fb q far))
        own
      where
        seam_or_not : (b i : ℕ) → Fit n (span e) b → Child (span e) b i → (Inside (span e) P.seam b → ⊥) → (P.seam ≡ i) ⊎ (Inside (span e) P.seam i → ⊥)
        seam_or_not b i fb q far =
            ⊎_elim (λ z. inl z) (λ z. inr (λ into. ⊎_elim z far (parent_inside n (span e) (preorder n e fl) b i P.seam fb q into)))
            (cases_eq P.seam i)

    cut_shape : CutShape n e (e.low P.seam) (e.high P.seam) P A B
    cut_shape = record {
      ends_differ = parted.rising;
      lanes_parted = λ u v h.
          ⊎_elim
          (λ k. inl (record { side = h.side; in_range = h.in_range; along = h.along; triangle = h.triangle; triangle_in_range = h.triangle_in_range; belongs = h.belongs; held_there = k }))
          (λ k. inr (record { side = h.side; in_range = h.in_range; along = h.along; triangle = h.triangle; triangle_in_range = h.triangle_in_range; belongs = h.belongs; held_there = k }))
          (c.parts.covered h.triangle h.held_there);
      lanes_of_first = λ u v h. record { side = h.side; in_range = h.in_range; along = h.along; triangle = h.triangle; triangle_in_range = h.triangle_in_range; belongs = h.belongs; held_there = c.parts.first_in h.triangle h.held_there };
      lanes_of_second = λ u v h. record { side = h.side; in_range = h.in_range; along = h.along; triangle = h.triangle; triangle_in_range = h.triangle_in_range; belongs = h.belongs; held_there = c.parts.second_in h.triangle h.held_there };
      first_lanes_inside = λ u v h.
          let w = parted.inner_lanes h.side h.triangle h.in_range h.belongs h.held_there in
          let z = fl.rising h.side h.in_range in
          let q = along_both (λ t. (e.low P.seam ≤ t) × (t ≤ e.high P.seam)) h.side u v h.along ((w.0, omega arith), (omega arith, w.1)) in
          (q.0.0, q.0.1, q.1.0, q.1.1);
      second_lanes_outside = λ u v h.
          along_both (Outside (e.low P.seam) (e.high P.seam)) h.side u v h.along (parted.outer_lanes h.side h.triangle h.in_range h.belongs h.held_there);
      first_edges_inside = λ u h.
          let w = (d.stands P.first first_range).edge_terminals.only u h in
          let s = (d.stands P.first first_range).seams_only w.of_side w.listed_there in
          let q = inner_side s.triangle w.of_side s.held_there s.side in
          let z = fl.rising w.of_side ((d.stands P.first first_range).sides_in_range w.of_side w.listed_there) in
          ⊎_elim (λ k. (omega (arith, k), omega (arith, k))) (λ k. (omega (arith, k), omega (arith, k))) w.low_or_high;
      second_edges_outside = λ u h.
          let w = (d.stands P.second c.in_range).edge_terminals.only u h in
          let s = (d.stands P.second c.in_range).seams_only w.of_side w.listed_there in
          let q = outer_side s.triangle w.of_side ((d.stands P.second c.in_range).sides_in_range w.of_side w.listed_there) s.held_there s.side in
          ⊎_elim (λ k. subst (Outside (e.low P.seam) (e.high P.seam)) (sym k) q.0) (λ k. subst (Outside (e.low P.seam) (e.high P.seam)) (sym k) q.1) w.low_or_high;
      seam_first = (parted.x_edge.0, parted.y_edge.0);
      seam_second = (parted.x_edge.1, parted.y_edge.1);
      edges_kept = parted.edges_passed;
    }

pub cuts_have_shape : CutsHaveShape
cuts_have_shape n e ps fl d p r c = cut_shape n e fl ps d p r c
