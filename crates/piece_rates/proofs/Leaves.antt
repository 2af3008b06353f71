-- The lanes that a piece of one triangle holds, and why its sheet shows its best rates.
-- Assumes the laws.
use Rattle.std.proofs.Common.{◌≡◌, ℕ, ◌+◌, ◌*◌, ◌<◌, ◌≤◌, Bool, true, false, cond, ◌&&◌, eqb, leb, ◌⊎◌, List, get_or, sym, refl, ap, ◌∙◌, subst, inl, inr, ⊎_elim, arith}
use Rattle.std.proofs.lemmas.Bool.{and_parts, and_from, cond_both, eqb-true, eqb-false, eq-eqb, leb-true, both_ways, true≢false}
use Rattle.rates.specs.Kinds.{Kind, Laws}
use Rattle.rates.specs.Many.{better_of}
use Rattle.trips.specs.Trips.{LaneMap, BestRate}
use Rattle.records.specs.declared.Piece.{Piece}
use Rattle.records.specs.Few.{listed}
use Rattle.pieces.specs.Sides.{Ends, span, right_of, Halved, Child, within}
use Rattle.pieces.specs.Holding.{clear}
use Rattle.pieces.proofs.Tree.{Fit, left_fits, right_fits}
use Rattle.pieces.proofs.Places.{preorder}
use Rattle.pieces.proofs.Geometry.{in_root}
use Rattle.piece_rates.specs.Lanes.{RunsAlong, HoldsLane, piece_lanes}
use Rattle.piece_rates.specs.Sheets.{SheetShows}
use Rattle.piece_rates.specs.Triangles.{third_corner, Triangular, triangle_entry}
use Rattle.piece_rates.specs.Leaves.{along, rate_if, leaf_lanes, LanesWithin, LeafSheet, LeafStands, LeafLanesAreHeld, LeafShows}
use Rattle.piece_rates.proofs.Parents.{lane_held, standing_held}
use Rattle.piece_rates.proofs.Sizes.{none_or_not, lane_size, piece_no_earning}
use Rattle.piece_rates.proofs.Triangles.{triangle_entries_best}

module _ {M : Type 0} (K : Kind M) (X : Laws K) (n : ℕ) (e : Ends) (m : LaneMap M) (P : Piece) (area : List M) (h : LeafStands K n e m P area) where
  abbrev b : ℕ
  b = P.top

  abbrev R : ℕ
  R = right_of (span e) b

  base : 2 ≤ span e b
  base = leb-true 2 (span e b) (and_parts (leb 2 (span e b)) (within (span e) b b && clear (span e) (listed P.holes) b) h.uncut.its_base).0

  halved : Halved e b
  halved = h.filled.halved b h.top_in_range base

  fits : Fit n (span e) b
  fits = in_root n e h.filled b h.top_in_range

  left_range : b + 1 + 3 < 2 * n
  left_range =
      let f = left_fits n (span e) (preorder n e h.filled) b fits base in
      let r : 1 ≤ span e (b + 1) = omega (arith, halved.low_same, halved.above_low) in
      omega arith

  right_range : R + 3 < 2 * n
  right_range =
      let f = right_fits n (span e) (preorder n e h.filled) b fits base in
      let r : 1 ≤ span e R = omega (arith, halved.meet, halved.high_same, halved.below_high) in
      omega arith

  -- a lane that the piece holds runs along the base, or along another side of length 1
  held_cases : (u v : ℕ) → HoldsLane n e P u v → RunsAlong e b u v ⊎ (((span e (b + 1) ≡ 1) × RunsAlong e (b + 1) u v) ⊎ ((span e R ≡ 1) × RunsAlong e R u v))
  held_cases u v w =
      let t = h.uncut.only_that w.triangle w.held_there in
      ⊎_elim
      (λ q. inl (subst (λ i. RunsAlong e i u v) (sym q.1 ∙ t) w.along))
      (λ q.
      let child = subst (λ i. Child (span e) i w.side) t q.1 in
      ⊎_elim
      (λ z. inr (inl (ap (span e) (sym z) ∙ q.0, subst (λ i. RunsAlong e i u v) z w.along)))
      (λ z. inr (inr (ap (span e) (sym z) ∙ q.0, subst (λ i. RunsAlong e i u v) z w.along)))
      child.which)
      w.belongs

  base_held : (u v : ℕ) → RunsAlong e b u v → HoldsLane n e P u v
  base_held u v r = record { side = b; in_range = h.top_in_range; along = r; triangle = b; triangle_in_range = h.top_in_range; belongs = inl (base, refl); held_there = h.uncut.its_base }

  left_held : span e (b + 1) ≡ 1 → (u v : ℕ) → RunsAlong e (b + 1) u v → HoldsLane n e P u v
  left_held z u v r = record { side = b + 1; in_range = left_range; along = r; triangle = b; triangle_in_range = h.top_in_range; belongs = inr (z, record { base = base; which = inl refl }); held_there = h.uncut.its_base }

  right_held : span e R ≡ 1 → (u v : ℕ) → RunsAlong e R u v → HoldsLane n e P u v
  right_held z u v r = record { side = R; in_range = right_range; along = r; triangle = b; triangle_in_range = h.top_in_range; belongs = inr (z, record { base = base; which = inr refl }); held_there = h.uncut.its_base }

  abbrev L : LaneMap M
  L = piece_lanes K n e P m

  not_held : (u v : ℕ) → (HoldsLane n e P u v → ⊥) → L u v ≡ K.none
  not_held u v un = ⊎_elim (λ z. z) (λ s. absurd (un (standing_held K X n e P m u v s))) (none_or_not K X (L u v))

  -- the lane up a side i, and the one down, given whether the side's lanes are held
  side_up : (i : ℕ) (g : Bool) → i + 3 < 2 * n → (g ≡ true → (u v : ℕ) → RunsAlong e i u v → HoldsLane n e P u v) → (g ≡ false → (u v : ℕ) → RunsAlong e i u v → HoldsLane n e P u v → ⊥) → (u v : ℕ) → u ≡ e.low i → v ≡ e.high i → L u v ≡ rate_if K g area (2 * i)
  side_up i g r when_held else_not u v p q =
      cond_both g (get_or area (2 * i) K.none) K.none (λ x. L u v ≡ x)
      (λ t. lane_held K X n e P m u v (when_held t u v (inl (p, q))) ∙ ap (λ x. m x v) p ∙ ap (m (e.low i)) q ∙ h.shown.up i r)
      (λ t. not_held u v (else_not t u v (inl (p, q))))

  side_down : (i : ℕ) (g : Bool) → i + 3 < 2 * n → (g ≡ true → (u v : ℕ) → RunsAlong e i u v → HoldsLane n e P u v) → (g ≡ false → (u v : ℕ) → RunsAlong e i u v → HoldsLane n e P u v → ⊥) → (u v : ℕ) → u ≡ e.high i → v ≡ e.low i → L u v ≡ rate_if K g area (2 * i + 1)
  side_down i g r when_held else_not u v p q =
      cond_both g (get_or area (2 * i + 1) K.none) K.none (λ x. L u v ≡ x)
      (λ t. lane_held K X n e P m u v (when_held t u v (inr (p, q))) ∙ ap (λ x. m x v) p ∙ ap (m (e.high i)) q ∙ h.shown.down i r)
      (λ t. not_held u v (else_not t u v (inr (p, q))))

  left_not : eqb (span e (b + 1)) 1 ≡ false → (u v : ℕ) → RunsAlong e (b + 1) u v → HoldsLane n e P u v → ⊥
  left_not t u v r w =
      let z = eqb-false (span e (b + 1)) 1 t in
      let a = halved.low_same in let c = halved.above_low in let d = halved.below_high in let f = halved.meet in let g = halved.high_same in
      ⊎_elim (λ k. ⊎_elim (λ p. ⊎_elim (λ q. omega arith) (λ q. omega arith) k) (λ p. ⊎_elim (λ q. omega arith) (λ q. omega arith) k) r)
      (λ k. ⊎_elim (λ q. z q.0) (λ q. ⊎_elim (λ p. ⊎_elim (λ o. omega arith) (λ o. omega arith) q.1) (λ p. ⊎_elim (λ o. omega arith) (λ o. omega arith) q.1) r) k)
      (held_cases u v w)

  right_not : eqb (span e R) 1 ≡ false → (u v : ℕ) → RunsAlong e R u v → HoldsLane n e P u v → ⊥
  right_not t u v r w =
      let z = eqb-false (span e R) 1 t in
      let a = halved.low_same in let c = halved.above_low in let d = halved.below_high in let f = halved.meet in let g = halved.high_same in
      ⊎_elim (λ k. ⊎_elim (λ p. ⊎_elim (λ q. omega arith) (λ q. omega arith) k) (λ p. ⊎_elim (λ q. omega arith) (λ q. omega arith) k) r)
      (λ k. ⊎_elim (λ q. ⊎_elim (λ p. ⊎_elim (λ o. omega arith) (λ o. omega arith) q.1) (λ p. ⊎_elim (λ o. omega arith) (λ o. omega arith) q.1) r) (λ q. z q.0) k)
      (held_cases u v w)

  -- one side of the triangle: up, down, or neither
  by_side : (i a c : ℕ) (up down others : M) (u v : ℕ) → (u ≡ a → v ≡ c → L u v ≡ up) → (u ≡ c → v ≡ a → L u v ≡ down) → (((u ≡ a) × (v ≡ c) → ⊥) → ((u ≡ c) × (v ≡ a) → ⊥) → L u v ≡ others) → L u v ≡ along K a c up down u v others
  by_side i a c up down others u v p q r =
      cond_both (eqb u a && eqb v c) up (cond (eqb u c && eqb v a) down others) (λ x. L u v ≡ x)
      (λ t. let z = and_parts (eqb u a) (eqb v c) t in p (eqb-true u a z.0) (eqb-true v c z.1))
      (λ t. cond_both (eqb u c && eqb v a) down others (λ x. L u v ≡ x)
      (λ s. let z = and_parts (eqb u c) (eqb v a) s in q (eqb-true u c z.0) (eqb-true v a z.1))
      (λ s. r (λ z. both_ways (eqb u a && eqb v c) t (and_from (eqb u a) (eqb v c) (eq-eqb u a z.0) (eq-eqb v c z.1)))
      (λ z. both_ways (eqb u c && eqb v a) s (and_from (eqb u c) (eqb v a) (eq-eqb u c z.0) (eq-eqb v a z.1)))))

  pub leaf_held : (u v : ℕ) → L u v ≡ leaf_lanes K e b area u v
  leaf_held u v =
      let gl = eqb (span e (b + 1)) 1 in
      let gr = eqb (span e R) 1 in
      let a = halved.low_same in
      let f = halved.meet in
      let g = halved.high_same in
      let yl : gl ≡ true → (u v : ℕ) → RunsAlong e (b + 1) u v → HoldsLane n e P u v = λ t. left_held (eqb-true (span e (b + 1)) 1 t) in
      let yr : gr ≡ true → (u v : ℕ) → RunsAlong e R u v → HoldsLane n e P u v = λ t. right_held (eqb-true (span e R) 1 t) in
      by_side b (e.low b) (e.high (b + 1)) (rate_if K gl area (2 * (b + 1))) (rate_if K gl area (2 * (b + 1) + 1))
      (along K (e.high (b + 1)) (e.high b) (rate_if K gr area (2 * R)) (rate_if K gr area (2 * R + 1)) u v (along K (e.low b) (e.high b) (get_or area (2 * b) K.none) (get_or area (2 * b + 1) K.none) u v K.none)) u v
      (λ p q. side_up (b + 1) gl left_range yl left_not u v (p ∙ sym a) q)
      (λ p q. side_down (b + 1) gl left_range yl left_not u v p (q ∙ sym a))
      (λ l l'.
      by_side R (e.high (b + 1)) (e.high b) (rate_if K gr area (2 * R)) (rate_if K gr area (2 * R + 1))
      (along K (e.low b) (e.high b) (get_or area (2 * b) K.none) (get_or area (2 * b + 1) K.none) u v K.none) u v
      (λ p q. side_up R gr right_range yr right_not u v (p ∙ sym f) (q ∙ sym g))
      (λ p q. side_down R gr right_range yr right_not u v (p ∙ sym g) (q ∙ sym f))
      (λ r r'.
      by_side b (e.low b) (e.high b) (get_or area (2 * b) K.none) (get_or area (2 * b + 1) K.none) K.none u v
      (λ p q. side_up b true h.top_in_range (λ t. base_held) (λ t u v k w. absurd (true≢false t)) u v p q)
      (λ p q. side_down b true h.top_in_range (λ t. base_held) (λ t u v k w. absurd (true≢false t)) u v p q)
      (λ s s'. not_held u v (λ w.
      ⊎_elim (λ k. ⊎_elim s s' k)
      (λ k. ⊎_elim (λ q. ⊎_elim (λ z. l (z.0 ∙ a, z.1)) (λ z. l' (z.0, z.1 ∙ a)) q.1)
      (λ q. ⊎_elim (λ z. r (z.0 ∙ f, z.1 ∙ g)) (λ z. r' (z.0 ∙ g, z.1 ∙ f)) q.1) k)
      (held_cases u v w)))))

  pub three : Triangular K (e.low b) (e.high (b + 1)) (e.high b) L
  three u v s =
      let a = halved.low_same in let c = halved.above_low in let d = halved.below_high in let f = halved.meet in let g = halved.high_same in
      ⊎_elim
      (λ k. ⊎_elim (λ z. (inl z.0, inr (inr z.1), λ x. omega arith)) (λ z. (inr (inr z.0), inl z.1, λ x. omega arith)) k)
      (λ k. ⊎_elim
      (λ q. ⊎_elim (λ z. (inl (z.0 ∙ a), inr (inl z.1), λ x. omega arith)) (λ z. (inr (inl z.0), inl (z.1 ∙ a), λ x. omega arith)) q.1)
      (λ q. ⊎_elim (λ z. (inr (inl (z.0 ∙ f)), inr (inr (z.1 ∙ g)), λ x. omega arith)) (λ z. (inr (inr (z.0 ∙ g)), inr (inl (z.1 ∙ f)), λ x. omega arith)) q.1) k)
      (held_cases u v (standing_held K X n e P m u v s))

  pub leaf_within : LanesWithin K (leaf_lanes K e b area)
  leaf_within u v = let s = lane_size K X n e m P h.lanes u v in omega (arith, ap K.size (leaf_held u v))

  -- the entry over the lanes that the area shows is the one over the piece's lanes
  entry_held : (u v : ℕ) → triangle_entry K (e.low b) (e.high (b + 1)) (e.high b) L u v ≡ triangle_entry K (e.low b) (e.high (b + 1)) (e.high b) (leaf_lanes K e b area) u v
  entry_held u v =
      let w = third_corner (e.low b) (e.high (b + 1)) (e.high b) u v in
      ap (λ x. cond (eqb u v) K.still (better_of K x (K.join (L u w) (L w v)))) (leaf_held u v)
      ∙ ap (λ x. cond (eqb u v) K.still (better_of K (leaf_lanes K e b area u v) (K.join x (L w v)))) (leaf_held u w)
      ∙ ap (λ x. cond (eqb u v) K.still (better_of K (leaf_lanes K e b area u v) (K.join (leaf_lanes K e b area u w) x))) (leaf_held w v)

  pub sheet_shows : (sheet : List M) → LeafSheet K e P area sheet → SheetShows K n e P m sheet
  sheet_shows sheet s = record {
    best = λ i j p q.
        let u = get_or (listed P.edges) i 0 in
        let v = get_or (listed P.edges) j 0 in
        subst (BestRate K L u v) (entry_held u v ∙ sym (s.entries i j p q))
        (triangle_entries_best K X (e.low b) (e.high (b + 1)) (e.high b) L three (piece_no_earning K X n e P m h.lanes.no_earning) u v);
    row_unused = s.row_unused;
    column_unused = s.column_unused;
  }

module _ {M : Type 0} (K : Kind M) (X : Laws K) where
  pub leaf_lanes_held : LeafLanesAreHeld K
  leaf_lanes_held n e m P area h = (leaf_held K X n e m P area h, leaf_within K X n e m P area h)

  pub leaf_shows : LeafShows K
  leaf_shows n e m P area sheet h s = sheet_shows K X n e m P area h sheet s
