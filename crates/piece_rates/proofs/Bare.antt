-- Where no lane stands, the sheets of still and none show every piece's best rates.
-- Assumes the laws of the kind.
use Rattle.std.proofs.Common.{◌≡◌, ℕ, zero, suc, ◌+◌, ◌*◌, ◌/◌, ◌%◌, ◌<◌, ◌≤◌, cond, ◌&&◌, eqb, ltb, ◌⊎◌, List, [], ◌∷◌, length, get_or, drop, sym, refl, ap, ◌∙◌, subst, inl, inr, ⊎_elim, arith, length-take}
use Rattle.std.proofs.lemmas.Bool.{cases_order, cond-true, cond-false, cond_both, and_from, and_left, and_right, eq-eqb, ne_eqb, lt-ltb, le-ltb}
use Rattle.std.proofs.lemmas.List.{get_or-take, get_or-drop}
use Rattle.rates.specs.Kinds.{Kind, Laws}
use Rattle.rates.specs.Order.{le_from}
use Rattle.trips.specs.Trips.{LaneMap, Trip, rate, BestRate}
use Rattle.trips.specs.Trips.Trip.{stay, go}
use Rattle.records.specs.declared.Piece.{Piece}
use Rattle.records.specs.Few.{listed, RisingFrom}
use Rattle.pieces.specs.Sides.{Ends}
use Rattle.pieces.specs.Holding.{piece_at}
use Rattle.piece_rates.specs.Lanes.{holds_lane, piece_lanes}
use Rattle.piece_rates.specs.Sheets.{SheetShows, sheet_of}
use Rattle.piece_rates.specs.Bare.{NoLanes, bare_place, BareSheetsShow}

-- numbers that rise from a are at least a, and a later one is larger
from_least : (a : ℕ) (xs : List ℕ) (j : ℕ) → RisingFrom a xs → j < length xs → a ≤ get_or xs j 0
from_least a [] j h l = absurd (omega arith)
from_least a (x ∷ xs) zero h l = h.0
from_least a (x ∷ xs) (suc j) h l = omega (arith, h.0, from_least (x + 1) xs j h.1 (omega arith))

pub rising_apart : (a : ℕ) (xs : List ℕ) (i j : ℕ) → RisingFrom a xs → i < j → j < length xs → get_or xs i 0 < get_or xs j 0
rising_apart a [] i j h l m = absurd (omega arith)
rising_apart a (x ∷ xs) i zero h l m = absurd (omega arith)
rising_apart a (x ∷ xs) zero (suc j) h l m = omega (arith, from_least (x + 1) xs j h.1 (omega arith))
rising_apart a (x ∷ xs) (suc i) (suc j) h l m = rising_apart (x + 1) xs i j h.1 (omega arith) (omega arith)

module _ {M : Type 0} (K : Kind M) (X : Laws K) where
  -- where no lane stands, only the empty trip is left
  no_way : {m : LaneMap M} {u v : ℕ} → NoLanes K m → Trip K m u v → u ≡ v
  no_way none stay = refl
  no_way {m} {u} none (go w s t) = absurd (s (none u w))

  stays_still : {m : LaneMap M} {u v : ℕ} → NoLanes K m → (t : Trip K m u v) → rate K t ≡ K.still
  unfolding rate
  stays_still none stay = refl
  stays_still {m} {u} none (go w s t) = absurd (s (none u w))

  best_same : (m : LaneMap M) (u : ℕ) → NoLanes K m → BestRate K m u u K.still
  unfolding rate
  best_same m u none = inr (stay, refl, λ t. le_from K X K.still (rate K t) (sym (stays_still none t)))

  best_apart : (m : LaneMap M) (u v : ℕ) → NoLanes K m → (u ≡ v → ⊥) → BestRate K m u v K.none
  best_apart m u v none ne = inl (λ t. ne (no_way none t), refl)

  piece_bare : (n : ℕ) (e : Ends) (P : Piece) (m : LaneMap M) → NoLanes K m → NoLanes K (piece_lanes K n e P m)
  piece_bare n e P m none u v = cond_both (holds_lane n e P u v) (m u v) K.none (λ x. x ≡ K.none) (λ _. none u v) (λ _. refl)

  module _ (count i j : ℕ) (l : j < 8) where
    row : (8 * i + j) / 8 ≡ i
    row = omega arith

    column : (8 * i + j) % 8 ≡ j
    column = omega arith

    placed : bare_place K count (8 * i + j) ≡ cond (eqb i j && ltb j count) K.still K.none
    placed = ap (λ v. cond (eqb v ((8 * i + j) % 8) && ltb ((8 * i + j) % 8) count) K.still K.none) row ∙ ap (λ v. cond (eqb i v && ltb v count) K.still K.none) column

    still_there : i ≡ j → j < count → bare_place K count (8 * i + j) ≡ K.still
    still_there z m = placed ∙ cond-true (eqb i j && ltb j count) K.still K.none (and_from (eqb i j) (ltb j count) (eq-eqb i j z) (lt-ltb j count m))

    none_there : (i ≡ j → ⊥) → bare_place K count (8 * i + j) ≡ K.none
    none_there z = placed ∙ cond-false (eqb i j && ltb j count) K.still K.none (and_left (eqb i j) (ltb j count) (ne_eqb i j z))

    none_past : count ≤ j → bare_place K count (8 * i + j) ≡ K.none
    none_past m = placed ∙ cond-false (eqb i j && ltb j count) K.still K.none (and_right (eqb i j) (ltb j count) (le-ltb j count m))

  -- one sheet
  module _ (n : ℕ) (e : Ends) (P : Piece) (m : LaneMap M) (sheet : List M) (none : NoLanes K m) (rises : RisingFrom 0 (listed P.edges)) (few : length (listed P.edges) ≤ 8) (places : (k : ℕ) → k < 64 → get_or sheet k K.none ≡ bare_place K (length (listed P.edges)) k) where
    abbrev edges : List ℕ
    edges = listed P.edges

    abbrev lanes : LaneMap M
    lanes = piece_lanes K n e P m

    bare : NoLanes K lanes
    bare = piece_bare n e P m none

    unequal : (i j : ℕ) → (i < j) ⊎ (j < i) → i ≡ j → ⊥
    unequal i j o z = ⊎_elim (λ l. omega arith) (λ l. omega arith) o

    differ : (i j : ℕ) → i < length edges → j < length edges → (i < j) ⊎ (j < i) → get_or edges i 0 ≡ get_or edges j 0 → ⊥
    differ i j p q o z = ⊎_elim (λ l. omega (arith, rising_apart 0 edges i j rises l q)) (λ l. omega (arith, rising_apart 0 edges j i rises l p)) o

    bare_sheet : SheetShows K n e P m sheet
    bare_sheet = record {
      best = λ i j p q.
          ⊎_elim
          (λ z. subst (λ v. BestRate K lanes (get_or edges i 0) v (get_or sheet (8 * i + j) K.none)) (ap (λ k. get_or edges k 0) z)
          (subst (BestRate K lanes (get_or edges i 0) (get_or edges i 0)) (sym (places (8 * i + j) (omega arith) ∙ still_there (length edges) i j (omega arith) z q))
          (best_same lanes (get_or edges i 0) bare)))
          (λ o. subst (BestRate K lanes (get_or edges i 0) (get_or edges j 0)) (sym (places (8 * i + j) (omega arith) ∙ none_there (length edges) i j (omega arith) (unequal i j o)))
          (best_apart lanes (get_or edges i 0) (get_or edges j 0) bare (differ i j p q o)))
          (cases_order i j);
      row_unused = λ i j p a b.
          places (8 * i + j) (omega arith)
          ∙ ⊎_elim (λ z. none_past (length edges) i j b (omega arith)) (λ o. none_there (length edges) i j b (unequal i j o)) (cases_order i j);
      column_unused = λ i j a p b. places (8 * i + j) (omega arith) ∙ none_past (length edges) i j b p;
    }

  pub bare_sheets_show : BareSheetsShow K
  bare_sheets_show n e ps m sheets none d all room bare p r =
      let P = piece_at ps p in
      let s = d.stands p r in
      bare_sheet n e P m (sheet_of K sheets p) none s.edge_terminals.rising
      (omega (arith, length-take P.edges.count P.edges.at, s.edges_pinned.places))
      (λ k l. get_or-take 64 (drop (64 * p) sheets) k K.none l ∙ get_or-drop (64 * p) sheets k K.none ∙ bare p (omega arith) (omega arith) k l)
