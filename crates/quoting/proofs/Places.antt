-- Places of sheets and lines, and the sizes that keep each join exact.
-- Assumes the laws where they are named.
use Rattle.std.proofs.Common.{◌≡◌, ℕ, zero, suc, ◌+◌, ◌*◌, ◌<◌, ◌≤◌, Bool, true, false, cond, List, [], ◌∷◌, length, get_or, drop, Some, None, Option, is_some, Decides, refl, sym, ap, ◌∙◌, subst, ⊎_elim, arith, length-take, get_or-drop}
use Rattle.std.proofs.lemmas.Bool.{cond-true, cond-false, lt-ltb, le-ltb}
use Rattle.std.proofs.lemmas.List.{get_or_past, get_or-take}
use Rattle.rates.specs.Kinds.{Kind, Laws}
use Rattle.rates.specs.Many.{better_of}
use Rattle.rates.specs.Order.{better_of_either}
use Rattle.records.specs.declared.Few.{Few}
use Rattle.records.specs.declared.Piece.{Piece}
use Rattle.records.specs.Few.{listed, Among, FirstPlace}
use Rattle.pieces.specs.Holding.{piece_at}
use Rattle.piece_rates.specs.Climbing.{place, among}
use Rattle.piece_rates.specs.Sheets.{sheet_of}
use Rattle.piece_rates.specs.Sizes.{largest, Within}
use Rattle.piece_rates.proofs.Places.{among_place, place_first, place_absent}
use Rattle.piece_rates.proofs.Sizes.{at_among}
use Rattle.climbing.specs.Lines.{cells}
use Rattle.quoting.specs.Places.{BothPlaces, half_at, IsLineOf, cell_at, to_low_at, to_high_at, by_ends_at, by_half_at, climb_at, climb_place_at, climbed_at, by_seam_at}
use Rattle.quoting.specs.declared.steps.Half.{Half}
use Rattle.quoting.specs.declared.steps.Step.{Step}

pub first_among : (xs : List ℕ) (u k : ℕ) → FirstPlace xs u k → Among u xs
first_among xs u k w = subst (λ v. Among v xs) w.stands (at_among xs k w.inside)

-- two terminals that both stand in a list have their places there
pub both_places : (xs : List ℕ) (u v : ℕ) (o : Option (ℕ × ℕ)) → BothPlaces xs u v o → Decides (is_some o) (Among u xs × Among v xs)
both_places xs u v (Some k) w = (λ e. (first_among xs u k.0 w.0, first_among xs v k.1 w.1), λ h. refl)
both_places xs u v None w = (λ e. absurd (cc), λ h. absurd (w h))

-- the piece beside a seam whose ends have these places
abbrev pub half_with : ℕ → Few → ℕ → ℕ → Half
half_with p edges low high = record { piece = p; edges = edges; low = low; high = high }

pub half_same : (ps : List Piece) (x y p : ℕ) (P : Piece) (low high : ℕ) → P ≡ piece_at ps p → FirstPlace (listed P.edges) x low → FirstPlace (listed P.edges) y high → half_with p P.edges low high ≡ half_at ps x y p
half_same ps x y p P low high f a b =
    ap (λ i. half_with p P.edges i high) (sym (place_first (listed P.edges) x low a))
    ∙ ap (half_with p P.edges (place (listed P.edges) x)) (sym (place_first (listed P.edges) y high b))
    ∙ ap (λ (q : Piece). half_with p q.edges (place (listed q.edges) x) (place (listed q.edges) y)) f

-- the eight rates of a line, each of which was given
pub eight : {V M : Type 0} (means : V → M) (d : M) (Given : ℕ → V → Type 0) {a0 a1 a2 a3 a4 a5 a6 a7 : V} → Given 0 a0 → Given 1 a1 → Given 2 a2 → Given 3 a3 → Given 4 a4 → Given 5 a5 → Given 6 a6 → Given 7 a7 → (k : ℕ) → k < 8 → (r : V) × Given k r × (get_or (means a0 ∷ means a1 ∷ means a2 ∷ means a3 ∷ means a4 ∷ means a5 ∷ means a6 ∷ means a7 ∷ []) k d ≡ means r)
eight means d Given g0 g1 g2 g3 g4 g5 g6 g7 zero l = (_, g0, refl)
eight means d Given g0 g1 g2 g3 g4 g5 g6 g7 (suc zero) l = (_, g1, refl)
eight means d Given g0 g1 g2 g3 g4 g5 g6 g7 (suc (suc zero)) l = (_, g2, refl)
eight means d Given g0 g1 g2 g3 g4 g5 g6 g7 (suc (suc (suc zero))) l = (_, g3, refl)
eight means d Given g0 g1 g2 g3 g4 g5 g6 g7 (suc (suc (suc (suc zero)))) l = (_, g4, refl)
eight means d Given g0 g1 g2 g3 g4 g5 g6 g7 (suc (suc (suc (suc (suc zero))))) l = (_, g5, refl)
eight means d Given g0 g1 g2 g3 g4 g5 g6 g7 (suc (suc (suc (suc (suc (suc zero)))))) l = (_, g6, refl)
eight means d Given g0 g1 g2 g3 g4 g5 g6 g7 (suc (suc (suc (suc (suc (suc (suc zero))))))) l = (_, g7, refl)
eight means d Given g0 g1 g2 g3 g4 g5 g6 g7 (suc (suc (suc (suc (suc (suc (suc (suc k)))))))) l = absurd (omega arith)

-- the test on a terminal that stands in a list, and on one that does not
pub among_first : (xs : List ℕ) (u k : ℕ) → FirstPlace xs u k → among xs u ≡ true
among_first xs u k w = among_place xs u ∙ lt-ltb (place xs u) (length xs) (omega (arith, place_first xs u k w, w.inside))

pub among_absent : (xs : List ℕ) (u : ℕ) → (Among u xs → ⊥) → among xs u ≡ false
among_absent xs u z = among_place xs u ∙ le-ltb (place xs u) (length xs) (omega (arith, place_absent xs u z))

module _ {M : Type 0} (K : Kind M) where
  -- a line whose places were filled one by one
  pub line_of : {V : Type 0} (means : V → M) (Post : ℕ → V → Type 0) (line : List M) (f : ℕ → M) → length line ≤ 8 → ((k : ℕ) → k < 8 → (r : V) × Post k r × (get_or line k K.none ≡ means r)) → ((k : ℕ) (r : V) → Post k r → means r ≡ f k) → IsLineOf K line f
  line_of means Post line f short filled is = record {
    short = short;
    places = λ k l. let w = filled k l in w.2 ∙ is k w.0 w.1;
  }

  -- a place of a sheet in the area of all sheets
  pub cell_there : (sheets : List M) (p i j : ℕ) → 8 * i + j < 64 → get_or sheets (64 * p + 8 * i + j) K.none ≡ cells K (sheet_of K sheets p) i j
  cell_there sheets p i j l =
      let e : 64 * p + 8 * i + j ≡ 64 * p + (8 * i + j) = omega arith in
      ap (λ k. get_or sheets k K.none) e ∙ sym (get_or-take 64 (drop (64 * p) sheets) (8 * i + j) K.none l ∙ get_or-drop (64 * p) sheets (8 * i + j) K.none)

  pub cell_past : (sheets : List M) (p i j : ℕ) → 64 ≤ 8 * i + j → K.none ≡ cells K (sheet_of K sheets p) i j
  cell_past sheets p i j l =
      sym (get_or_past (sheet_of K sheets p) (8 * i + j) K.none (omega (arith, length-take 64 (drop (64 * p) sheets))))

  module _ (line sheets : List M) (s : Step) (into : Bool) (low high : M) (t : ℕ) where
    abbrev own_way : ℕ → M
    own_way k = better_of K (get_or line k K.none) (by_half_at K low high sheets s.own into k)

    abbrev across_way : ℕ → M
    across_way k = by_half_at K low high sheets s.across into k

    -- a rate climbed to a terminal of the own piece, to one across, and to one of neither
    pub climb_own_at : (rate way r : M) (k : ℕ) → FirstPlace (listed s.own.edges) t k → rate ≡ get_or line k K.none → way ≡ by_half_at K low high sheets s.own into k → r ≡ better_of K rate way → r ≡ climb_at K line sheets s into low high t
    climb_own_at rate way r k w f g h =
        let E = listed s.own.edges in
        h ∙ ap (λ v. better_of K v way) f ∙ ap (better_of K (get_or line k K.none)) g ∙ ap own_way (sym (place_first E t k w))
        ∙ sym (cond-true (among E t) (own_way (place E t)) (cond (among (listed s.across.edges) t) (across_way (place (listed s.across.edges) t)) K.none) (among_first E t k w))

    not_own : (r : M) → (Among t (listed s.own.edges) → ⊥) → r ≡ cond (among (listed s.across.edges) t) (across_way (place (listed s.across.edges) t)) K.none → r ≡ climb_at K line sheets s into low high t
    not_own r z f =
        let E = listed s.own.edges in
        f ∙ sym (cond-false (among E t) (own_way (place E t)) (cond (among (listed s.across.edges) t) (across_way (place (listed s.across.edges) t)) K.none) (among_absent E t z))

    pub climb_across_at : (r : M) (k : ℕ) → (Among t (listed s.own.edges) → ⊥) → FirstPlace (listed s.across.edges) t k → r ≡ by_half_at K low high sheets s.across into k → r ≡ climb_at K line sheets s into low high t
    climb_across_at r k z w f =
        let E = listed s.across.edges in
        not_own r z (f ∙ ap across_way (sym (place_first E t k w)) ∙ sym (cond-true (among E t) (across_way (place E t)) K.none (among_first E t k w)))

    pub climb_nowhere_at : (r : M) → (Among t (listed s.own.edges) → ⊥) → (Among t (listed s.across.edges) → ⊥) → r ≡ K.none → r ≡ climb_at K line sheets s into low high t
    climb_nowhere_at r z y f =
        let E = listed s.across.edges in
        not_own r z (f ∙ sym (cond-false (among E t) (across_way (place E t)) K.none (among_absent E t y)))

  -- a place of the climbed line
  pub climbed_place : (line sheets : List M) (s : Step) (into : Bool) (low high : M) (k : ℕ) → low ≡ to_low_at K line sheets s into → high ≡ to_high_at K line sheets s into → climb_place_at K line sheets s into low high k ≡ climbed_at K line sheets s into k
  climbed_place line sheets s into low high k e f =
      ap (λ v. climb_place_at K line sheets s into v high k) e ∙ ap (λ v. climb_place_at K line sheets s into (to_low_at K line sheets s into) v k) f

  -- the rate between two lines
  pub by_seam_same : (row column sheets : List M) (s : Step) (there : Half) (low high a b r : M) → low ≡ to_low_at K row sheets s false → high ≡ to_high_at K row sheets s false → a ≡ get_or column there.low K.none → b ≡ get_or column there.high K.none → r ≡ by_ends_at K low high a b → r ≡ by_seam_at K row sheets s there column
  by_seam_same row column sheets s there low high a b r e f i j g =
      g ∙ ap (λ v. by_ends_at K v high a b) e ∙ ap (λ v. by_ends_at K (to_low_at K row sheets s false) v a b) f
      ∙ ap (λ v. by_ends_at K (to_low_at K row sheets s false) (to_high_at K row sheets s false) v b) i
      ∙ ap (by_ends_at K (to_low_at K row sheets s false) (to_high_at K row sheets s false) (get_or column there.low K.none)) j

  module _ (X : Laws K) where
    better_size : (a b : M) (n : ℕ) → K.size a ≤ n → K.size b ≤ n → K.size (better_of K a b) ≤ n
    better_size a b n h k =
        ⊎_elim (λ e. omega (arith, ap K.size e)) (λ e. omega (arith, ap K.size e)) (better_of_either K X a b)

    pub cell_size : (sheets : List M) (p : ℕ) (into : Bool) (i j : ℕ) → Within K (sheet_of K sheets p) → K.size (cell_at K sheets p into i j) ≤ largest
    cell_size sheets p true i j w = w.bounded (8 * j + i)
    cell_size sheets p false i j w = w.bounded (8 * i + j)

    -- the rates to the ends of a seam
    pub to_end_size : (line sheets : List M) (q : ℕ) (into : Bool) (a b i j : ℕ) (r : M) → Within K line → Within K (sheet_of K sheets q) → r ≡ better_of K (get_or line a K.none) (K.join (get_or line b K.none) (cell_at K sheets q into i j)) → K.size r ≤ 2 * largest
    to_end_size line sheets q into a b i j r w v e =
        let x = get_or line a K.none in
        let y = get_or line b K.none in
        let d = cell_at K sheets q into i j in
        let s = better_size x (K.join y d) (2 * largest) (omega (arith, w.bounded a)) (omega (arith, X.join_size y d, w.bounded b, cell_size sheets q into i j v)) in
        omega (arith, ap K.size e)
