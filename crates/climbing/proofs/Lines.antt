-- Lines climb over a seam, meet at it, and begin at sheets and triangles.
-- Assumes the laws of the kind.
use Rattle.std.proofs.Common.{◌≡◌, ℕ, zero, suc, ◌+◌, ◌*◌, ◌<◌, ◌≤◌, Bool, true, false, cond, not, ◌&&◌, ◌||◌, leb, List, [], ◌∷◌, length, get_or, sym, refl, ap, ◌∙◌, subst, ⊎_elim, arith}
use Rattle.std.proofs.lemmas.Bool.{and_from, or_left, or_right, le-leb, cond_both, cases_lt, both_ways}
use Rattle.std.proofs.lemmas.List.{get_or_past}
use Rattle.rates.specs.Kinds.{Kind, Laws}
use Rattle.rates.specs.Many.{better_of}
use Rattle.trips.specs.Trips.{LaneMap, BestRate}
use Rattle.trips.specs.Climbs.{Known, climb_own, climb_other}
use Rattle.trips.proofs.Shown.{climb_is_best, mirrored_climb_is_best, rows_and_columns_meet}
use Rattle.records.specs.declared.Piece.{Piece}
use Rattle.records.specs.Few.{listed, Among}
use Rattle.pieces.specs.Sides.{Ends}
use Rattle.piece_rates.specs.Lanes.{piece_lanes}
use Rattle.piece_rates.specs.Climbing.{place, among, child_edges, child_table, seam_ends}
use Rattle.piece_rates.specs.Parents.{PartsShown}
use Rattle.piece_rates.specs.Triangles.{triangle_entry}
use Rattle.piece_rates.specs.Leaves.{leaf_lanes, LeafStands, LeafSheet}
use Rattle.piece_rates.proofs.Holding.{among_decided, place_below, at_place}
use Rattle.piece_rates.proofs.Parents.{known}
use Rattle.piece_rates.proofs.Sizes.{piece_no_earning, best_within, at_among}
use Rattle.piece_rates.proofs.Leaves.{leaf_shows}
use Rattle.climbing.specs.Lines.{OnSide, turned, BestBetween, LineShows, rate_to, cells, ClimbedLine, by_column, LinesClimb, LinesMeet, SheetsHaveLines, TrianglesHaveLines, LinesAreWithin}

-- the test that a terminal lies on a side of the seam
abbrev on_side : Bool → ℕ → ℕ → ℕ → Bool
on_side c x y u = cond c (leb x u && leb u y) (leb u x || leb y u)

side_test : (c : Bool) (x y u : ℕ) → OnSide c x y u → on_side c x y u ≡ true
side_test true x y u h = and_from (leb x u) (leb u y) (le-leb x u h.0) (le-leb u y h.1)
side_test false x y u h = ⊎_elim (λ l. or_left (leb u x) (leb y u) (le-leb u x l)) (λ l. or_right (leb u x) (leb y u) (le-leb y u l)) h

module _ {M : Type 0} (K : Kind M) (X : Laws K) where
  -- a line by terminals
  by_terminals : (n : ℕ) (e : Ends) (P : Piece) (m : LaneMap M) (into : Bool) (u : ℕ) (line : List M) → LineShows K n e P m into u line → (t : ℕ) → among (listed P.edges) t ≡ true → BestBetween K into (piece_lanes K n e P m) u t (rate_to K (listed P.edges) line t)
  by_terminals n e P m into u line h t a =
      let E = listed P.edges in
      let in_it = (among_decided E t).0 a in
      subst (λ v. BestBetween K into (piece_lanes K n e P m) u v (rate_to K E line t)) (at_place E t in_it) (h.best (place E t) (place_below E t in_it))

  module _ (n : ℕ) (e : Ends) (m : LaneMap M) (P A B : Piece) (x y : ℕ) (a b : List M) (h : PartsShown K n e m P A B x y a b) where
    abbrev part : Bool → LaneMap M
    part c = piece_lanes K n e (cond c A B) m

    abbrev chosen : Bool → ℕ → Bool
    chosen c = among (child_edges A B c)

    all_known : Known K (piece_lanes K n e P m) part (λ c u. on_side c x y u) chosen (seam_ends x y) (child_table K A B a b)
    all_known = known K X n e x y P A B m h.shape a b (piece_no_earning K X n e P m h.lanes.no_earning) h.first_shown h.second_shown

    -- an edge terminal of P that is none of one part's is one of the other's
    in_other : (t : ℕ) → Among t (listed P.edges) → (c : Bool) → chosen c t ≡ false → chosen (not c) t ≡ true
    in_other t k true z =
        ⊎_elim (λ j. absurd (both_ways (chosen true t) z ((among_decided (listed A.edges) t).1 j))) (λ j. (among_decided (listed B.edges) t).1 j) (h.shape.edges_kept t k)
    in_other t k false z =
        ⊎_elim (λ j. (among_decided (listed A.edges) t).1 j) (λ j. absurd (both_ways (chosen false t) z ((among_decided (listed B.edges) t).1 j))) (h.shape.edges_kept t k)

    -- the climb over the parts' tables, as they are or turned round
    abbrev over_tables : Bool → Bool → (ℕ → M) → ℕ → M
    over_tables c into line t =
        cond (chosen c t)
        (climb_own K line (turned into (child_table K A B a b c)) (turned into (child_table K A B a b (not c))) (seam_ends x y) t)
        (climb_other K line (turned into (child_table K A B a b (not c))) (seam_ends x y) t)

    climbed_best : (c into : Bool) (u : ℕ) (line : ℕ → M) → OnSide c x y u → ((t : ℕ) → chosen c t ≡ true → BestBetween K into (part c) u t (line t)) → (t : ℕ) → Among t (listed P.edges) → BestBetween K into (piece_lanes K n e P m) u t (over_tables c into line t)
    climbed_best c false u line s shows t k =
        let w = climb_is_best K X (piece_lanes K n e P m) part (λ c u. on_side c x y u) chosen (seam_ends x y) (child_table K A B a b) all_known c u line (side_test c x y u s) shows in
        cond_both (chosen c t)
        (climb_own K line (child_table K A B a b c) (child_table K A B a b (not c)) (seam_ends x y) t)
        (climb_other K line (child_table K A B a b (not c)) (seam_ends x y) t)
        (BestRate K (piece_lanes K n e P m) u t) (λ z. w.own_part t z) (λ z. w.other_part t (in_other t k c z))
    climbed_best c true u line s shows t k =
        let w = mirrored_climb_is_best K X (piece_lanes K n e P m) part (λ c u. on_side c x y u) chosen (seam_ends x y) (child_table K A B a b) all_known c u line (side_test c x y u s) shows in
        cond_both (chosen c t)
        (climb_own K line (turned true (child_table K A B a b c)) (turned true (child_table K A B a b (not c))) (seam_ends x y) t)
        (climb_other K line (turned true (child_table K A B a b (not c))) (seam_ends x y) t)
        (BestRate K (piece_lanes K n e P m) t u) (λ z. w.own_part t z) (λ z. w.other_part t (in_other t k c z))

    climbed_shows : (c into : Bool) (u : ℕ) (line line' : List M) → OnSide c x y u → ((t : ℕ) → chosen c t ≡ true → BestBetween K into (part c) u t (rate_to K (child_edges A B c) line t)) → ((k : ℕ) → k < length (listed P.edges) → get_or line' k K.none ≡ over_tables c into (rate_to K (child_edges A B c) line) (get_or (listed P.edges) k 0)) → ((k : ℕ) → length (listed P.edges) ≤ k → get_or line' k K.none ≡ K.none) → LineShows K n e P m into u line'
    climbed_shows c into u line line' s shows w z = record {
      best = λ k l.
          let t = get_or (listed P.edges) k 0 in
          subst (BestBetween K into (piece_lanes K n e P m) u t) (sym (w k l))
          (climbed_best c into u (rate_to K (child_edges A B c) line) s shows t (at_among (listed P.edges) k l));
      unused = z;
    }

    climbed_up : (c into : Bool) (u : ℕ) (line line' : List M) → OnSide c x y u → LineShows K n e (cond c A B) m into u line → ClimbedLine K into (listed P.edges) (listed (cond c A B).edges) (listed (cond c B A).edges) (cond c a b) (cond c b a) x y line line' → LineShows K n e P m into u line'
    climbed_up true into u line line' s k w = climbed_shows true into u line line' s (by_terminals n e A m into u line k) w.climbs w.unused
    climbed_up false into u line line' s k w = climbed_shows false into u line line' s (by_terminals n e B m into u line k) w.climbs w.unused

    meet_different : (c : Bool) (u v : ℕ) (row column : List M) → OnSide c x y u → LineShows K n e (cond c A B) m false u row → OnSide (not c) x y v → LineShows K n e (cond c B A) m true v column → BestRate K (piece_lanes K n e P m) u v (by_column K (listed (cond c A B).edges) (listed (cond c B A).edges) (listed (cond c B A).edges) (cond c b a) x y row column v)
    meet_different true u v row column su kr sv kc =
        (rows_and_columns_meet K X (piece_lanes K n e P m) part (λ c u. on_side c x y u) chosen (seam_ends x y) (child_table K A B a b) all_known true u (rate_to K (listed A.edges) row) (side_test true x y u su) (by_terminals n e A m false u row kr)
        ).different_parts v (rate_to K (listed B.edges) column) (side_test false x y v sv) (by_terminals n e B m true v column kc)
    meet_different false u v row column su kr sv kc =
        (rows_and_columns_meet K X (piece_lanes K n e P m) part (λ c u. on_side c x y u) chosen (seam_ends x y) (child_table K A B a b) all_known false u (rate_to K (listed B.edges) row) (side_test false x y u su) (by_terminals n e B m false u row kr)
        ).different_parts v (rate_to K (listed A.edges) column) (side_test true x y v sv) (by_terminals n e A m true v column kc)

    meet_same : (c : Bool) (u v : ℕ) (row column : List M) → OnSide c x y u → LineShows K n e (cond c A B) m false u row → OnSide c x y v → LineShows K n e (cond c A B) m true v column → (direct : M) → BestRate K (piece_lanes K n e (cond c A B) m) u v direct → BestRate K (piece_lanes K n e P m) u v (better_of K direct (by_column K (listed (cond c A B).edges) (listed (cond c B A).edges) (listed (cond c A B).edges) (cond c b a) x y row column v))
    meet_same true u v row column su kr sv kc direct d =
        (rows_and_columns_meet K X (piece_lanes K n e P m) part (λ c u. on_side c x y u) chosen (seam_ends x y) (child_table K A B a b) all_known true u (rate_to K (listed A.edges) row) (side_test true x y u su) (by_terminals n e A m false u row kr)
        ).same_part v (rate_to K (listed A.edges) column) direct (side_test true x y v sv) (by_terminals n e A m true v column kc) d
    meet_same false u v row column su kr sv kc direct d =
        (rows_and_columns_meet K X (piece_lanes K n e P m) part (λ c u. on_side c x y u) chosen (seam_ends x y) (child_table K A B a b) all_known false u (rate_to K (listed B.edges) row) (side_test false x y u su) (by_terminals n e B m false u row kr)
        ).same_part v (rate_to K (listed B.edges) column) direct (side_test false x y v sv) (by_terminals n e B m true v column kc) d

  pub lines_climb : LinesClimb K
  lines_climb n e m P A B x y a b h c into u line line' s k w = climbed_up n e m P A B x y a b h c into u line line' s k w

  pub lines_meet : LinesMeet K
  lines_meet n e m P A B x y a b h c u v row column su kr = (
    λ sv kc. meet_different n e m P A B x y a b h c u v row column su kr sv kc,
    λ sv kc direct d. meet_same n e m P A B x y a b h c u v row column su kr sv kc direct d,
  )

  pub sheets_have_lines : SheetsHaveLines K
  sheets_have_lines n e P m sheet h into u line a few short places = record {
    best = λ k l. shown_at into k l (places k (omega arith));
    unused = λ k l. ⊎_elim (λ b. places k b ∙ unused_at into k l b) (λ b. get_or_past line k K.none (omega arith)) (cases_lt k 8);
  }
    where
      i : ℕ
      i = place (listed P.edges) u

      below : i < length (listed P.edges)
      below = place_below (listed P.edges) u a

      shown_at : (into : Bool) (k : ℕ) → k < length (listed P.edges) → get_or line k K.none ≡ turned into (cells K sheet) i k → BestBetween K into (piece_lanes K n e P m) u (get_or (listed P.edges) k 0) (get_or line k K.none)
      shown_at false k l z =
          subst (BestRate K (piece_lanes K n e P m) u (get_or (listed P.edges) k 0)) (sym z)
          (subst (λ w. BestRate K (piece_lanes K n e P m) w (get_or (listed P.edges) k 0) (cells K sheet i k)) (at_place (listed P.edges) u a) (h.best i k below l))
      shown_at true k l z =
          subst (BestRate K (piece_lanes K n e P m) (get_or (listed P.edges) k 0) u) (sym z)
          (subst (λ w. BestRate K (piece_lanes K n e P m) (get_or (listed P.edges) k 0) w (cells K sheet k i)) (at_place (listed P.edges) u a) (h.best k i l below))

      unused_at : (into : Bool) (k : ℕ) → length (listed P.edges) ≤ k → k < 8 → turned into (cells K sheet) i k ≡ K.none
      unused_at false k l b = h.column_unused i k (omega (arith, below)) l b
      unused_at true k l b = h.row_unused k i l b (omega (arith, below))

  -- The edge terminals of a record have no part in its lanes: with u and v put in their place, a leaf's sheet has the rate from u to v.
  entry_best : (n : ℕ) (e : Ends) (m : LaneMap M) (P : Piece) (area : List M) → LeafStands K n e m P area → (u v : ℕ) → BestRate K (piece_lanes K n e P m) u v (triangle_entry K (e.low P.top) (e.high (P.top + 1)) (e.high P.top) (leaf_lanes K e P.top area) u v)
  entry_best n e m P area h u v = (leaf_shows K X n e m Q area sheet stands entries).best 0 1 (omega arith) (omega arith)
    where
      Q : Piece
      Q = record { parent = P.parent; first = P.first; second = P.second; seam = P.seam; top = P.top; holes = P.holes; edges = record { count = 2; at = u ∷ v ∷ [] }; level = P.level }

      entry : ℕ → ℕ → M
      entry = triangle_entry K (e.low P.top) (e.high (P.top + 1)) (e.high P.top) (leaf_lanes K e P.top area)

      sheet : List M
      sheet = entry u u ∷ entry u v ∷ K.none ∷ K.none ∷ K.none ∷ K.none ∷ K.none ∷ K.none ∷ entry v u ∷ entry v v ∷ []

      both : (i j : ℕ) → i < 2 → j < 2 → get_or sheet (8 * i + j) K.none ≡ entry (get_or (u ∷ v ∷ []) i 0) (get_or (u ∷ v ∷ []) j 0)
      both zero zero p q = refl
      both zero (suc zero) p q = refl
      both zero (suc (suc j)) p q = absurd (omega arith)
      both (suc zero) zero p q = refl
      both (suc zero) (suc zero) p q = refl
      both (suc zero) (suc (suc j)) p q = absurd (omega arith)
      both (suc (suc i)) j p q = absurd (omega arith)

      behind : (i j : ℕ) → 2 ≤ j → j < 8 → get_or sheet (8 * i + j) K.none ≡ K.none
      behind (suc i) j p q = get_or_past sheet (8 * suc i + j) K.none (omega arith)
      behind zero zero p q = absurd (omega arith)
      behind zero (suc zero) p q = absurd (omega arith)
      behind zero (suc (suc zero)) p q = refl
      behind zero (suc (suc (suc zero))) p q = refl
      behind zero (suc (suc (suc (suc zero)))) p q = refl
      behind zero (suc (suc (suc (suc (suc zero))))) p q = refl
      behind zero (suc (suc (suc (suc (suc (suc zero)))))) p q = refl
      behind zero (suc (suc (suc (suc (suc (suc (suc zero))))))) p q = refl
      behind zero (suc (suc (suc (suc (suc (suc (suc (suc j)))))))) p q = absurd (omega arith)

      stands : LeafStands K n e m Q area
      stands = record { lanes = h.lanes; filled = h.filled; uncut = record { one_triangle = h.uncut.one_triangle; its_base = h.uncut.its_base; only_that = h.uncut.only_that; no_first = h.uncut.no_first; no_second = h.uncut.no_second; no_seam = h.uncut.no_seam }; top_in_range = h.top_in_range; shown = h.shown }

      entries : LeafSheet K e Q area sheet
      entries = record {
        entries = both;
        row_unused = λ i j l p q. get_or_past sheet (8 * i + j) K.none (omega arith);
        column_unused = λ i j p l q. behind i j l q;
      }

  pub triangles_have_lines : TrianglesHaveLines K
  triangles_have_lines n e m P area h = (
    entry_best n e m P area h,
    λ into u line w. record {
      best = λ k l. at into u (get_or (listed P.edges) k 0) (get_or line k K.none) (w.entries k l);
      unused = w.unused;
    },
  )
    where
      at : (into : Bool) (u v : ℕ) (r : M) → r ≡ turned into (triangle_entry K (e.low P.top) (e.high (P.top + 1)) (e.high P.top) (leaf_lanes K e P.top area)) u v → BestBetween K into (piece_lanes K n e P m) u v r
      at false u v r z = subst (BestRate K (piece_lanes K n e P m) u v) (sym z) (entry_best n e m P area h u v)
      at true u v r z = subst (BestRate K (piece_lanes K n e P m) v u) (sym z) (entry_best n e m P area h v u)

  pub lines_are_within : LinesAreWithin K
  lines_are_within n e P m into u line h s = record {
    bounded = λ k. ⊎_elim
        (λ l. best_within K X n e m P h (cond into (get_or (listed P.edges) k 0) u) (cond into u (get_or (listed P.edges) k 0)) (get_or line k K.none) (s.best k l))
        (λ l. omega (arith, ap K.size (s.unused k l), X.none_size))
        (cases_lt k (length (listed P.edges)));
  }
