-- Which terminals touch the parts of a cut piece, and that all terminals and lanes are those of the whole plan.
-- Assumes the ends of a filled ring in preorder and a division of it.
use Rattle.std.proofs.Common.{◌≡◌, ℕ, zero, suc, ◌+◌, ◌*◌, ◌<◌, ◌≤◌, ◌⊎◌, List, take, sym, refl, ap, ◌∙◌, subst, inl, inr, ⊎_elim, arith}
use mathlib.Core.Path.{fun_ext}
use Rattle.std.proofs.lemmas.Bool.{cases_order, cond_both}
use Rattle.rates.specs.Kinds.{Kind, Laws}
use Rattle.trips.specs.Trips.{LaneMap}
use Rattle.records.specs.declared.Piece.{Piece}
use Rattle.records.specs.declared.Few.{Few}
use Rattle.records.specs.Few.{listed, Among}
use Rattle.pieces.specs.Sides.{Ends, span, right_of, Filled, Inside, SideOf, Belongs}
use Rattle.pieces.specs.Holding.{piece_at, Holds}
use Rattle.pieces.specs.Division.{Division, CutInTwo}
use Rattle.pieces.proofs.Tree.{Fit, root_fits, left_fits, right_fits, inside_trans, child_inside, parent}
use Rattle.pieces.proofs.Places.{preorder}
use Rattle.pieces.proofs.Geometry.{in_root}
use Rattle.pieces.proofs.Known.{bounds_cases}
use Rattle.pieces.proofs.Shown.{holds_shown}
use Rattle.pieces.proofs.Clauses.{itself}
use Rattle.piece_rates.specs.Lanes.{holds_lane, piece_lanes, LanesShown}
use Rattle.piece_rates.specs.Climbing.{Outside}
use Rattle.piece_rates.specs.Triangles.{Corner}
use Rattle.piece_rates.specs.Touching.{Touches}
use Rattle.piece_rates.proofs.Cuts.{holds_is, seam_range, seam_below, inner_side, outer_side}
use Rattle.piece_rates.proofs.Parents.{lane_held}
use Rattle.piece_rates.proofs.Sizes.{none_or_not}

none_listed : (f : Few) (h : ℕ) → f.count ≡ 0 → Among h (listed f) → ⊥
none_listed f h z a = subst (λ k. Among h (take k f.at)) z a

module _ (n : ℕ) (e : Ends) (fl : Filled n e) where
  -- an end of a side of a triangle is a corner of the triangle
  pub side_corner : (b i u : ℕ) → b + 3 < 2 * n → 2 ≤ span e b → SideOf (span e) b i → (u ≡ e.low i) ⊎ (u ≡ e.high i) → Corner (e.low b) (e.high (b + 1)) (e.high b) u
  side_corner b i u r base (inl z) end = ⊎_elim (λ q. inl (q ∙ ap e.low z)) (λ q. inr (inr (q ∙ ap e.high z))) end
  side_corner b i u r base (inr c) end =
      let h = fl.halved b r base in
      ⊎_elim
      (λ z. ⊎_elim (λ q. inl (q ∙ ap e.low z ∙ h.low_same)) (λ q. inr (inl (q ∙ ap e.high z))) end)
      (λ z. ⊎_elim (λ q. inr (inl (q ∙ ap e.low z ∙ h.meet))) (λ q. inr (inr (q ∙ ap e.high z ∙ h.high_same))) end)
      c.which

  left_range : (b : ℕ) → b + 3 < 2 * n → 2 ≤ span e b → b + 1 + 3 < 2 * n
  left_range b r base =
      let h = fl.halved b r base in
      let f = left_fits n (span e) (preorder n e fl) b (in_root n e fl b r) base in
      let l : 1 ≤ span e (b + 1) = omega (arith, h.low_same, h.above_low) in
      omega arith

  module _ (ps : List Piece) (d : Division n e ps) (p : ℕ) (r : p + 5 < 2 * n) where
    -- edge terminals are ends of bounding seams, which are sides of the piece's triangles
    pub edge_touches : (u : ℕ) → Among u (listed (piece_at ps p).edges) → Touches n e (piece_at ps p) u
    edge_touches u h =
        let w = (d.stands p r).edge_terminals.only u h in
        let s = (d.stands p r).seams_only w.of_side w.listed_there in
        let k = holds_is n e fl (piece_at ps p) s.triangle s.held_there in
        let inside : s.triangle + 3 < 2 * n = omega (arith, in_root n e fl (piece_at ps p).top (d.stands p r).top_in_range, k.1.1) in
        record { triangle = s.triangle; in_range = inside; held_there = s.held_there; corner = side_corner s.triangle w.of_side u inside k.0 s.side w.low_or_high }

    module _ (c : CutInTwo n (span e) p (piece_at ps p) (piece_at ps (piece_at ps p).first) (piece_at ps (piece_at ps p).second)) where
      abbrev P : Piece
      P = piece_at ps p

      abbrev A : Piece
      A = piece_at ps P.first

      abbrev B : Piece
      B = piece_at ps P.second

      abbrev x : ℕ
      x = e.low P.seam

      abbrev y : ℕ
      y = e.high P.seam

      -- the first part touches terminals from x to y only
      pub touch_first : (u : ℕ) → Touches n e A u → (x ≤ u) × (u ≤ y)
      touch_first u t =
          let b = t.triangle in
          let h = fl.halved b t.in_range (holds_is n e fl A b t.held_there).0 in
          let z = fl.rising b t.in_range in
          let q = inner_side n e fl ps d p r c b b t.held_there (inl refl) in
          ⊎_elim (λ k. (omega (arith, k, q.0), omega (arith, k, q.1)))
          (⊎_elim (λ k. (omega (arith, k, q.0, h.above_low), omega (arith, k, q.1, h.below_high))) (λ k. (omega (arith, k, q.0), omega (arith, k, q.1))))
          t.corner

      -- the second none strictly between
      pub touch_second : (u : ℕ) → Touches n e B u → Outside x y u
      touch_second u t =
          let b = t.triangle in
          let base = (holds_is n e fl B b t.held_there).0 in
          let own = outer_side n e fl ps d p r c b b t.in_range t.held_there (inl refl) in
          let third = outer_side n e fl ps d p r c b (b + 1) (left_range b t.in_range base) t.held_there (inr (record { base = base; which = inl refl })) in
          ⊎_elim (λ k. subst (Outside x y) (sym k) own.0)
          (⊎_elim (λ k. subst (Outside x y) (sym k) third.1) (λ k. subst (Outside x y) (sym k) own.1))
          t.corner

      pub first_touches : (u : ℕ) → Touches n e A u → Touches n e P u
      first_touches u t = record { triangle = t.triangle; in_range = t.in_range; held_there = c.parts.first_in t.triangle t.held_there; corner = t.corner }

      pub second_touches : (u : ℕ) → Touches n e B u → Touches n e P u
      second_touches u t = record { triangle = t.triangle; in_range = t.in_range; held_there = c.parts.second_in t.triangle t.held_there; corner = t.corner }

      pub touches_parts : (u : ℕ) → Touches n e P u → Touches n e A u ⊎ Touches n e B u
      touches_parts u t =
          ⊎_elim
          (λ h. inl (record { triangle = t.triangle; in_range = t.in_range; held_there = h; corner = t.corner }))
          (λ h. inr (record { triangle = t.triangle; in_range = t.in_range; held_there = h; corner = t.corner }))
          (c.parts.covered t.triangle t.held_there)

      -- the ends of the seam: the first part holds the triangle on it, the second the one above it
      first_holds_seam : Holds (span e) A P.seam
      first_holds_seam =
          let hole : Among P.seam (listed B.holes) =
          ⊎_elim (λ q. absurd (omega (arith, q.0, c.second_top, seam_below n e fl ps d p r c))) (λ q. q) (bounds_cases B.top (listed B.holes) P.seam c.seam_bounds_second) in
          ⊎_elim (λ h. h)
          (λ h.
          let base = holds_is n e fl B P.seam h in
          absurd (base.2 P.seam hole (omega arith, omega (arith, base.0))))
          (c.parts.covered P.seam c.inner.on_it)

      above_range : c.inner.base_above + 3 < 2 * n
      above_range =
          let k = holds_is n e fl P c.inner.base_above c.inner.above_it in
          omega (arith, in_root n e fl P.top (d.stands p r).top_in_range, k.1.1)

      second_holds_above : Holds (span e) B c.inner.base_above
      second_holds_above =
          ⊎_elim
          (λ h.
          let k = holds_is n e fl A c.inner.base_above h in
          let f = in_root n e fl c.inner.base_above above_range in
          absurd (omega (arith, k.1.0, c.first_top, (child_inside n (span e) (preorder n e fl) c.inner.base_above P.seam f c.inner.child_of_it).2)))
          (λ h. h)
          (c.parts.covered c.inner.base_above c.inner.above_it)

      pub seam_touches_first : (u : ℕ) → (u ≡ x) ⊎ (u ≡ y) → Touches n e A u
      seam_touches_first u h = record {
        triangle = P.seam;
        in_range = seam_range n e fl ps d p r c;
        held_there = first_holds_seam;
        corner = ⊎_elim (λ z. inl z) (λ z. inr (inr z)) h;
      }

      pub seam_touches_second : (u : ℕ) → (u ≡ x) ⊎ (u ≡ y) → Touches n e B u
      seam_touches_second u h = record {
        triangle = c.inner.base_above;
        in_range = above_range;
        held_there = second_holds_above;
        corner = side_corner c.inner.base_above P.seam u above_range (holds_is n e fl B c.inner.base_above second_holds_above).0 (inr c.inner.child_of_it) h;
      }

      -- a terminal of the piece from x to y touches the first part, one not strictly between the second
      pub inside_touches_first : (u : ℕ) → Touches n e P u → x ≤ u → u ≤ y → Touches n e A u
      inside_touches_first u t l h =
          ⊎_elim (λ a. a)
          (λ b. seam_touches_first u (⊎_elim (λ k. inl (omega arith)) (λ k. inr (omega arith)) (touch_second u b)))
          (touches_parts u t)

      pub outside_touches_second : (u : ℕ) → Touches n e P u → Outside x y u → Touches n e B u
      outside_touches_second u t o =
          ⊎_elim
          (λ a.
          let k = touch_first u a in
          seam_touches_second u (⊎_elim (λ z. inl (omega (arith, k.0))) (λ z. inr (omega (arith, k.1))) o))
          (λ b. b)
          (touches_parts u t)

  -- Every terminal from the low end of a base to its high end is a corner of a triangle at or below it: an end or the third
  -- terminal of the base itself, or strictly between the ends of one of its children.
  abbrev CorneredBelow : ℕ → ℕ → Type 0
  CorneredBelow i u = (b : ℕ) × (Inside (span e) i b) × (2 ≤ span e b) × Corner (e.low b) (e.high (b + 1)) (e.high b) u

  cornered_here : (i u : ℕ) → 2 ≤ span e i → Corner (e.low i) (e.high (i + 1)) (e.high i) u → CorneredBelow i u
  cornered_here i u base q = (i, (omega arith, omega arith), base, q)

  cornered : (g i u : ℕ) → span e i ≤ g → Fit n (span e) i → 2 ≤ span e i → e.low i ≤ u → u ≤ e.high i → CorneredBelow i u
  cornered zero i u b fit base l h = absurd (omega arith)
  cornered (suc g) i u b fit base l h =
      let pre = preorder n e fl in
      let v = fl.halved i (omega arith) base in
      let left = left_fits n (span e) pre i fit base in
      let right = right_fits n (span e) pre i fit base in
      let own = cornered_here i u base in
      ⊎_elim (λ z. own (inr (inl z)))
      (⊎_elim
      (λ k. ⊎_elim (λ z. own (inl z))
      (⊎_elim (λ z. absurd (omega arith))
      (λ z.
      let w = cornered g (i + 1) u (omega (arith, v.low_same, v.below_high)) left (omega (arith, v.low_same)) (omega (arith, v.low_same)) (omega arith) in
      (w.0, inside_trans n (span e) pre i (i + 1) w.0 fit (child_inside n (span e) pre i (i + 1) fit (record { base = base; which = inl refl })).0 w.1, w.2, w.3)))
      (cases_order u (e.low i)))
      (λ k. ⊎_elim (λ z. own (inr (inr z)))
      (⊎_elim
      (λ z.
      let w = cornered g (right_of (span e) i) u (omega (arith, v.meet, v.high_same, v.above_low)) right (omega (arith, v.meet, v.high_same)) (omega (arith, v.meet)) (omega (arith, v.high_same)) in
      (w.0, inside_trans n (span e) pre i (right_of (span e) i) w.0 fit (child_inside n (span e) pre i (right_of (span e) i) fit (record { base = base; which = inr refl })).0 w.1, w.2, w.3))
      (λ z. absurd (omega arith)))
      (cases_order u (e.high i))))
      (cases_order u (e.high (i + 1)))

  module _ (ps : List Piece) (d : Division n e ps) where
    whole_holds : (b : ℕ) → 2 ≤ span e b → Inside (span e) 0 b → Holds (span e) (piece_at ps 0) b
    whole_holds b base into =
        let w = d.whole_plan in
        holds_shown (span e) (piece_at ps 0) (piece_at ps 0).top (listed (piece_at ps 0).holes) (piece_at ps 0).level (piece_at ps 0).parent (itself (piece_at ps 0)) b
        (base, subst (λ t. Inside (span e) t b) (sym w.root_side) into, λ h a. absurd (none_listed (piece_at ps 0).holes h w.no_holes a))

    -- every terminal is a corner of some triangle of the whole plan
    pub all_touch_whole : (u : ℕ) → u < n → Touches n e (piece_at ps 0) u
    all_touch_whole u l =
        let pre = preorder n e fl in
        let f = root_fits n (span e) pre in
        let w = cornered (span e 0) 0 u (omega arith) f (omega (arith, pre.root, pre.least)) (omega (arith, fl.first)) (omega (arith, fl.last)) in
        record { triangle = w.0; in_range = omega (arith, w.1.1, f); held_there = whole_holds w.0 w.2 w.1; corner = w.3 }

    -- the triangle that a side's lanes belong to
    whole_triangle : (i : ℕ) → i + 3 < 2 * n → (b : ℕ) × (b + 3 < 2 * n) × Belongs (span e) i b × Holds (span e) (piece_at ps 0) b
    whole_triangle i r =
        let pre = preorder n e fl in
        let f = root_fits n (span e) pre in
        let into : Inside (span e) 0 i = (omega arith, omega (arith, pre.root)) in
        let up = fl.rising i r in
        ⊎_elim
        (λ z.
        let o : 0 ≡ i → ⊥ = λ q. omega (arith, ap (span e) q, pre.root, pre.least) in
        let w = parent n (span e) pre 0 i f into o in
        (w.0, omega (arith, w.1.0.1, f), inr (z, w.1.1), whole_holds w.0 w.1.1.base w.1.0))
        (⊎_elim (λ z. absurd (omega arith)) (λ z. (i, r, inl (omega arith, refl), whole_holds i (omega arith) into)))
        (cases_order (span e i) 1)

    module _ {M : Type 0} (K : Kind M) (X : Laws K) (m : LaneMap M) (area : List M) (shown : LanesShown K n e area m) where
      -- the whole plan holds every lane that stands
      pub whole_lanes : piece_lanes K n e (piece_at ps 0) m ≡ m
      whole_lanes = fun_ext (λ u. fun_ext (λ v. at u v))
        where
          at : (u v : ℕ) → piece_lanes K n e (piece_at ps 0) m u v ≡ m u v
          at u v =
              ⊎_elim
              (λ z. cond_both (holds_lane n e (piece_at ps 0) u v) (m u v) K.none (λ w. w ≡ m u v) (λ _. refl) (λ _. sym z))
              (λ s.
              let k = shown.only_sides u v s in
              let t = whole_triangle k.0 k.1 in
              lane_held K X n e (piece_at ps 0) m u v
              (record { side = k.0; in_range = k.1; along = k.2; triangle = t.0; triangle_in_range = t.1; belongs = t.2; held_there = t.3 }))
              (none_or_not K X (m u v))
