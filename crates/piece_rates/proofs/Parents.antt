-- A parent's best rates from its children's, by the climb over two parts that meet in two terminals.
-- Assumes the laws of the kind and the shape of the cut.
use Rattle.std.proofs.Common.{◌≡◌, ℕ, ◌≤◌, Bool, true, false, cond, not, ◌&&◌, ◌||◌, leb, List, get_or, sym, refl, ◌∙◌, subst, inl, inr, ⊎_elim, arith}
use Rattle.std.proofs.lemmas.Bool.{and_parts, and_from, or_cases, or_left, or_right, leb-true, le-leb, cases_Bool, cond-true, cond-false, cond_both, both_ways}
use Rattle.rates.specs.Kinds.{Kind, Laws}
use Rattle.trips.specs.Trips.{LaneMap, Standing, NoEarning, BestRate}
use Rattle.trips.specs.Climbs.{Meeting, Known, RowShows, TableShows, climb_own, climb_other}
use Rattle.trips.proofs.Shown.{climb_is_best}
use Rattle.records.specs.declared.Piece.{Piece}
use Rattle.records.specs.Few.{listed, Among}
use Rattle.pieces.specs.Sides.{Ends}
use Rattle.piece_rates.specs.Lanes.{HoldsLane, holds_lane, piece_lanes}
use Rattle.piece_rates.specs.Sheets.{SheetShows}
use Rattle.piece_rates.specs.Climbing.{place, among, Outside, CutShape, table_of, child_edges, child_table, seam_ends, climbed, parent_entry, ClimbsToParent}
use Rattle.piece_rates.proofs.Holding.{holds_lane_found, holds_lane_tested, among_decided, place_below, at_place}

module _ {M : Type 0} (K : Kind M) (X : Laws K) where
  -- a lane that a piece holds is the book's; one that stands in a piece's lanes is held
  pub lane_held : (n : ℕ) (e : Ends) (P : Piece) (m : LaneMap M) (u v : ℕ) → HoldsLane n e P u v → piece_lanes K n e P m u v ≡ m u v
  lane_held n e P m u v h = cond-true (holds_lane n e P u v) (m u v) K.none (holds_lane_tested n e P u v h)

  pub standing_held : (n : ℕ) (e : Ends) (P : Piece) (m : LaneMap M) (u v : ℕ) → Standing K (piece_lanes K n e P m) u v → HoldsLane n e P u v
  standing_held n e P m u v s =
      ⊎_elim (holds_lane_found n e P u v) (λ z. absurd (s (cond-false (holds_lane n e P u v) (m u v) K.none z)))
      (cases_Bool (holds_lane n e P u v))

  module _ (n : ℕ) (e : Ends) (x y : ℕ) (P A B : Piece) (m : LaneMap M) (shape : CutShape n e x y P A B) where
    abbrev child : Bool → Piece
    child c = cond c A B

    abbrev part : Bool → LaneMap M
    part c = piece_lanes K n e (child c) m

    -- the terminals of the two parts: from x to y, and not strictly between
    abbrev terminals : Bool → ℕ → Bool
    terminals c u = cond c (leb x u && leb u y) (leb u x || leb y u)

    inside_test : (u : ℕ) → (x ≤ u) × (u ≤ y) → terminals true u ≡ true
    inside_test u h = and_from (leb x u) (leb u y) (le-leb x u h.0) (le-leb u y h.1)

    outside_test : (u : ℕ) → Outside x y u → terminals false u ≡ true
    outside_test u h = ⊎_elim (λ l. or_left (leb u x) (leb y u) (le-leb u x l)) (λ l. or_right (leb u x) (leb y u) (le-leb y u l)) h

    child_in_whole : (c : Bool) (u v : ℕ) → HoldsLane n e (child c) u v → HoldsLane n e P u v
    child_in_whole true u v h = shape.lanes_of_first u v h
    child_in_whole false u v h = shape.lanes_of_second u v h

    from_inside : (c : Bool) (u v : ℕ) → HoldsLane n e (child c) u v → terminals c u ≡ true
    from_inside true u v h = let p = shape.first_lanes_inside u v h in inside_test u (p.0, p.1)
    from_inside false u v h = outside_test u (shape.second_lanes_outside u v h).0

    to_inside : (c : Bool) (u v : ℕ) → HoldsLane n e (child c) u v → terminals c v ≡ true
    to_inside true u v h = let p = shape.first_lanes_inside u v h in inside_test v (p.2, p.3)
    to_inside false u v h = outside_test v (shape.second_lanes_outside u v h).1

    seam_inside : (c i : Bool) → terminals c (seam_ends x y i) ≡ true
    seam_inside true true = inside_test x (omega arith, omega (arith, shape.ends_differ))
    seam_inside true false = inside_test y (omega (arith, shape.ends_differ), omega arith)
    seam_inside false true = outside_test x (inl (omega arith))
    seam_inside false false = outside_test y (inr (omega arith))

    only_seam : (u : ℕ) → terminals true u ≡ true → terminals false u ≡ true → (i : Bool) × (u ≡ seam_ends x y i)
    only_seam u p q =
        let h = and_parts (leb x u) (leb u y) p in
        ⊎_elim
        (λ z. (true, omega (arith, leb-true x u h.0, leb-true u x z)))
        (λ z. (false, omega (arith, leb-true u y h.1, leb-true y u z)))
        (or_cases (leb u x) (leb y u) q)

    pub meets : Meeting K (piece_lanes K n e P m) part terminals (seam_ends x y)
    meets = record {
      part_in_whole = λ c u v s. let h = standing_held n e (child c) m u v s in
          lane_held n e (child c) m u v h ∙ sym (lane_held n e P m u v (child_in_whole c u v h));
      whole_in_parts = λ u v s. let h = standing_held n e P m u v s in
          ⊎_elim
          (λ a. (true, lane_held n e A m u v a ∙ sym (lane_held n e P m u v h)))
          (λ b. (false, lane_held n e B m u v b ∙ sym (lane_held n e P m u v h)))
          (shape.lanes_parted u v h);
      lane_from = λ c u v s. from_inside c u v (standing_held n e (child c) m u v s);
      lane_to = λ c u v s. to_inside c u v (standing_held n e (child c) m u v s);
      seam_in_parts = seam_inside;
      only_seam_shared = only_seam;
    }

    -- a sheet's table shows the best rates between the edge terminals
    sheet_table : (Q : Piece) (q : List M) → SheetShows K n e Q m q → TableShows K (piece_lanes K n e Q m) (among (listed Q.edges)) (table_of K (listed Q.edges) q)
    sheet_table Q q shows u v p r =
        let edges = listed Q.edges in
        let hu = (among_decided edges u).0 p in
        let hv = (among_decided edges v).0 r in
        subst (λ w. BestRate K (piece_lanes K n e Q m) w v (table_of K edges q u v)) (at_place edges u hu)
        (subst (λ w. BestRate K (piece_lanes K n e Q m) (get_or edges (place edges u) 0) w (table_of K edges q u v)) (at_place edges v hv)
        (shows.best (place edges u) (place edges v) (place_below edges u hu) (place_below edges v hv)))

    module _ (a b : List M) (ne : NoEarning K (piece_lanes K n e P m)) (sa : SheetShows K n e A m a) (sb : SheetShows K n e B m b) where
      abbrev chosen : Bool → ℕ → Bool
      chosen c = among (child_edges A B c)

      edges_inside : (c : Bool) (u : ℕ) → chosen c u ≡ true → terminals c u ≡ true
      edges_inside true u p = inside_test u (shape.first_edges_inside u ((among_decided (listed A.edges) u).0 p))
      edges_inside false u p = outside_test u (shape.second_edges_outside u ((among_decided (listed B.edges) u).0 p))

      seam_edges : (c i : Bool) → chosen c (seam_ends x y i) ≡ true
      seam_edges true true = (among_decided (listed A.edges) x).1 shape.seam_first.0
      seam_edges true false = (among_decided (listed A.edges) y).1 shape.seam_first.1
      seam_edges false true = (among_decided (listed B.edges) x).1 shape.seam_second.0
      seam_edges false false = (among_decided (listed B.edges) y).1 shape.seam_second.1

      tables : (c : Bool) → TableShows K (part c) (chosen c) (child_table K A B a b c)
      tables true = sheet_table A a sa
      tables false = sheet_table B b sb

      pub known : Known K (piece_lanes K n e P m) part terminals chosen (seam_ends x y) (child_table K A B a b)
      known = record { meeting = meets; no_earning = ne; chosen_inside = edges_inside; seam_chosen = seam_edges; tables = tables }

      -- an edge terminal of P that is none of one child's is one of the other's
      in_other : (t : ℕ) → Among t (listed P.edges) → (c : Bool) → chosen c t ≡ false → chosen (not c) t ≡ true
      in_other t h true z =
          ⊎_elim (λ k. absurd (both_ways (chosen true t) z ((among_decided (listed A.edges) t).1 k))) (λ k. (among_decided (listed B.edges) t).1 k) (shape.edges_kept t h)
      in_other t h false z =
          ⊎_elim (λ k. (among_decided (listed A.edges) t).1 k) (λ k. absurd (both_ways (chosen false t) z ((among_decided (listed B.edges) t).1 k))) (shape.edges_kept t h)

      -- a row of best rates from s over the lanes of the child c, climbed
      pub climbed_best : (c : Bool) (s : ℕ) (row : ℕ → M) → terminals c s ≡ true → RowShows K (part c) s (chosen c) row → (t : ℕ) → Among t (listed P.edges) → BestRate K (piece_lanes K n e P m) s t (climbed K A B a b x y c row t)
      climbed_best c s row s_in shows t t_edge =
          let climbs = climb_is_best K X (piece_lanes K n e P m) part terminals chosen (seam_ends x y) (child_table K A B a b) known c s row s_in shows in
          cond_both (chosen c t)
          (climb_own K row (child_table K A B a b c) (child_table K A B a b (not c)) (seam_ends x y) t)
          (climb_other K row (child_table K A B a b (not c)) (seam_ends x y) t)
          (BestRate K (piece_lanes K n e P m) s t)
          (λ z. climbs.own_part t z)
          (λ z. climbs.other_part t (in_other t t_edge c z))

      -- the child that parent_entry takes for s has s
      first_that_has : (s : ℕ) → Among s (listed P.edges) → (c : Bool) → among (listed A.edges) s ≡ c → chosen c s ≡ true
      first_that_has s h true z = z
      first_that_has s h false z = in_other s h true z

      pub entry_best : (s t : ℕ) → Among s (listed P.edges) → Among t (listed P.edges) → BestRate K (piece_lanes K n e P m) s t (parent_entry K A B a b x y s t)
      entry_best s t s_edge t_edge =
          let c = among (listed A.edges) s in
          let h = first_that_has s s_edge c refl in
          climbed_best c s (child_table K A B a b c s) (edges_inside c s h) (λ v p. tables c s v h p) t t_edge

  pub climbs_to_parent : ClimbsToParent K
  climbs_to_parent n e x y P A B m a b shape ne sa sb s t s_edge t_edge = entry_best n e x y P A B m shape a b ne sa sb s t s_edge t_edge
