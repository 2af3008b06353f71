-- A leaf's sheet place by place, from the triangle as it was read.
-- Assumes the laws.
use Rattle.std.proofs.Common.{◌≡◌, ℕ, ◌+◌, ◌*◌, ◌/◌, ◌%◌, ◌<◌, ◌≤◌, cond, ◌&&◌, eqb, ltb, List, length, get_or, sym, ◌∙◌, subst, arith}
use Rattle.std.proofs.lemmas.Bool.{cond-true, cond-false, and_from, and_left, and_right, lt-ltb, le-ltb}
use Rattle.rates.specs.Kinds.{Kind}
use Rattle.trips.specs.Trips.{LaneMap}
use Rattle.records.specs.declared.Piece.{Piece}
use Rattle.records.specs.Few.{listed}
use Rattle.pieces.specs.Sides.{Ends, span, right_of}
use Rattle.piece_rates.specs.Leaves.{rate_if, corner_lanes, leaf_lanes, LeafSheet}
use Rattle.piece_rates.specs.Triangles.{triangle_entry}
use Rattle.sheets.specs.Triangles.{TriangleRead, leaf_place}

divided : (i j : ℕ) → j < 8 → (8 * i + j) / 8 ≡ i
divided i j l = omega arith

left_over : (i j : ℕ) → j < 8 → (8 * i + j) % 8 ≡ j
left_over i j l = omega arith

module _ {M : Type 0} (K : Kind M) where
  -- a property of the corners and lanes that were read is one of those that the area shows
  pub read_as : (e : Ends) (b : ℕ) (area : List M) (low third high : ℕ) (lu ld ru rd bu bd : M) → TriangleRead K e b area low third high lu ld ru rd bu bd → (Q : ℕ → ℕ → ℕ → LaneMap M → Type 0) → Q (e.low b) (e.high (b + 1)) (e.high b) (leaf_lanes K e b area) → Q low third high (corner_lanes K low third high lu ld ru rd bu bd)
  read_as e b area low third high lu ld ru rd bu bd t Q q =
      back low t.low_corner (λ x. Q x third high (corner_lanes K x third high lu ld ru rd bu bd))
      (back third t.third_corner_is (λ x. Q (e.low b) x high (corner_lanes K (e.low b) x high lu ld ru rd bu bd))
      (back high t.high_corner (λ x. Q (e.low b) (e.high (b + 1)) x (corner_lanes K (e.low b) (e.high (b + 1)) x lu ld ru rd bu bd))
      (back lu t.left_up_is (λ x. Q (e.low b) (e.high (b + 1)) (e.high b) (corner_lanes K (e.low b) (e.high (b + 1)) (e.high b) x ld ru rd bu bd))
      (back ld t.left_down_is (λ x. Q (e.low b) (e.high (b + 1)) (e.high b) (corner_lanes K (e.low b) (e.high (b + 1)) (e.high b) (rate_if K (eqb (span e (b + 1)) 1) area (2 * (b + 1))) x ru rd bu bd))
      (back ru t.right_up_is (λ x. Q (e.low b) (e.high (b + 1)) (e.high b) (corner_lanes K (e.low b) (e.high (b + 1)) (e.high b) (rate_if K (eqb (span e (b + 1)) 1) area (2 * (b + 1))) (rate_if K (eqb (span e (b + 1)) 1) area (2 * (b + 1) + 1)) x rd bu bd))
      (back rd t.right_down_is (λ x. Q (e.low b) (e.high (b + 1)) (e.high b) (corner_lanes K (e.low b) (e.high (b + 1)) (e.high b) (rate_if K (eqb (span e (b + 1)) 1) area (2 * (b + 1))) (rate_if K (eqb (span e (b + 1)) 1) area (2 * (b + 1) + 1)) (rate_if K (eqb (span e (right_of (span e) b)) 1) area (2 * right_of (span e) b)) x bu bd))
      (back bu t.base_up_is (λ x. Q (e.low b) (e.high (b + 1)) (e.high b) (corner_lanes K (e.low b) (e.high (b + 1)) (e.high b) (rate_if K (eqb (span e (b + 1)) 1) area (2 * (b + 1))) (rate_if K (eqb (span e (b + 1)) 1) area (2 * (b + 1) + 1)) (rate_if K (eqb (span e (right_of (span e) b)) 1) area (2 * right_of (span e) b)) (rate_if K (eqb (span e (right_of (span e) b)) 1) area (2 * right_of (span e) b + 1)) x bd))
      (back bd t.base_down_is (λ x. Q (e.low b) (e.high (b + 1)) (e.high b) (corner_lanes K (e.low b) (e.high (b + 1)) (e.high b) (rate_if K (eqb (span e (b + 1)) 1) area (2 * (b + 1))) (rate_if K (eqb (span e (b + 1)) 1) area (2 * (b + 1) + 1)) (rate_if K (eqb (span e (right_of (span e) b)) 1) area (2 * right_of (span e) b)) (rate_if K (eqb (span e (right_of (span e) b)) 1) area (2 * right_of (span e) b + 1)) (get_or area (2 * b) K.none) x)) q))))))))
    where
      back : {A : Type 0} (x : A) {y : A} → x ≡ y → (F : A → Type 0) → F y → F x
      back x z F f = subst F (sym z) f

  pub places_are_sheet : (e : Ends) (P : Piece) (area sheet : List M) (low third high : ℕ) (lu ld ru rd bu bd : M) → TriangleRead K e P.top area low third high lu ld ru rd bu bd → length (listed P.edges) ≤ 8 → ((k : ℕ) → k < 64 → get_or sheet k K.none ≡ leaf_place K low third high (corner_lanes K low third high lu ld ru rd bu bd) (listed P.edges) k) → LeafSheet K e P area sheet
  places_are_sheet e P area sheet low third high lu ld ru rd bu bd t few places =
      let T = listed P.edges in
      let m = leaf_lanes K e P.top area in
      let here : (k : ℕ) → k < 64 → get_or sheet k K.none ≡ leaf_place K (e.low P.top) (e.high (P.top + 1)) (e.high P.top) m T k =
      forward e P.top area low third high lu ld ru rd bu bd t (λ a b c l. (k : ℕ) → k < 64 → get_or sheet k K.none ≡ leaf_place K a b c l T k) places in
      let at : (i j : ℕ) → i < 8 → j < 8 → get_or sheet (8 * i + j) K.none ≡ cond (ltb i (length T) && ltb j (length T)) (triangle_entry K (e.low P.top) (e.high (P.top + 1)) (e.high P.top) m (get_or T i 0) (get_or T j 0)) K.none =
      λ i j l l'. subst (λ r. get_or sheet (8 * i + j) K.none ≡ cond (ltb i (length T) && ltb r (length T)) (triangle_entry K (e.low P.top) (e.high (P.top + 1)) (e.high P.top) m (get_or T i 0) (get_or T r 0)) K.none) (left_over i j l')
      (subst (λ q. get_or sheet (8 * i + j) K.none ≡ cond (ltb q (length T) && ltb ((8 * i + j) % 8) (length T)) (triangle_entry K (e.low P.top) (e.high (P.top + 1)) (e.high P.top) m (get_or T q 0) (get_or T ((8 * i + j) % 8) 0)) K.none) (divided i j l')
      (here (8 * i + j) (omega arith))) in
      record {
        entries = λ i j l l'. at i j (omega arith) (omega arith) ∙ cond-true (ltb i (length T) && ltb j (length T)) (triangle_entry K (e.low P.top) (e.high (P.top + 1)) (e.high P.top) m (get_or T i 0) (get_or T j 0)) K.none (and_from (ltb i (length T)) (ltb j (length T)) (lt-ltb i (length T) l) (lt-ltb j (length T) l'));
        row_unused = λ i j l p q. at i j p q ∙ cond-false (ltb i (length T) && ltb j (length T)) (triangle_entry K (e.low P.top) (e.high (P.top + 1)) (e.high P.top) m (get_or T i 0) (get_or T j 0)) K.none (and_left (ltb i (length T)) (ltb j (length T)) (le-ltb i (length T) l));
        column_unused = λ i j p l q. at i j p q ∙ cond-false (ltb i (length T) && ltb j (length T)) (triangle_entry K (e.low P.top) (e.high (P.top + 1)) (e.high P.top) m (get_or T i 0) (get_or T j 0)) K.none (and_right (ltb i (length T)) (ltb j (length T)) (le-ltb j (length T) l));
      }
    where
      forward : (e : Ends) (b : ℕ) (area : List M) (low third high : ℕ) (lu ld ru rd bu bd : M) → TriangleRead K e b area low third high lu ld ru rd bu bd → (Q : ℕ → ℕ → ℕ → LaneMap M → Type 0) → Q low third high (corner_lanes K low third high lu ld ru rd bu bd) → Q (e.low b) (e.high (b + 1)) (e.high b) (leaf_lanes K e b area)
      forward e b area low third high lu ld ru rd bu bd t Q q =
          read_as e b area low third high lu ld ru rd bu bd t (λ a b' c l. Q a b' c l → Q (e.low b) (e.high (b + 1)) (e.high b) (leaf_lanes K e b area)) (λ z. z) q
