-- The climb by places is the climb by terminals, and rows of it are the parent's sheet.
-- Assumes that the parts say where the terminals stand.
use Rattle.std.proofs.Common.{◌≡◌, ℕ, ◌+◌, ◌-◌, ◌*◌, ◌<◌, ◌≤◌, Bool, true, false, cond, ltb, List, ◌++◌, map, length, get_or, take, sym, ap, ◌∙◌, subst, ⊎_elim, arith, length-take}
use borrow.Rule.Slice.PartMut.{put_mid, post_of}
use Rattle.std.proofs.lemmas.Bool.{cond-true, cond-false, lt-ltb, le-ltb, cases_lt, cases_order}
use Rattle.std.proofs.lemmas.List.{get_or_append_left, get_or-append_right, length-map, map-append, take-map, get_or-take}
use Rattle.rates.specs.Kinds.{Kind}
use Rattle.rates.specs.Many.{better_of}
use Rattle.trips.specs.Climbs.{climb_own, climb_other}
use Rattle.records.specs.declared.Piece.{Piece}
use Rattle.records.specs.Few.{listed}
use Rattle.piece_rates.specs.Climbing.{place, among, table_of, child_table, seam_ends, climbed, parent_entry}
use Rattle.piece_rates.specs.Parents.{ParentSheet}
use Rattle.piece_rates.proofs.Places.{among_place}
use Rattle.sheets.specs.Places.{PartShows, cell, to_seam_at, by_seam_at, climbed_at, entry_at}
use Rattle.sheets.specs.declared.parent.Part.{Part}

module _ {M : Type 0} (K : Kind M) where
  -- the climb over two sheets, given all places: of the first terminal and the seam's ends in the own part, of the seam's ends
  -- in the other, and of the last terminal in both
  abbrev climb_by : List M → List M → ℕ → ℕ → ℕ → ℕ → ℕ → ℕ → ℕ → Bool → M
  climb_by own other s x y x' y' t t' inside =
      let low = to_seam_at K own other s (x, x') (y, y') in
      let high = to_seam_at K own other s (y, y') (x, x') in
      cond inside (better_of K (cell K own s t) (by_seam_at K low high own (x, y) t)) (by_seam_at K low high other (x', y') t')

  climbed_same : (T E F : List ℕ) (x y : ℕ) (p q : Part) → PartShows T E x y p → PartShows T F x y q → (own other : List M) (i j : ℕ) → i < length T → j < length T → climbed_at K p q own other (get_or p.at i 0) j ≡ cond (among E (get_or T j 0)) (climb_own K (table_of K E own (get_or T i 0)) (table_of K E own) (table_of K F other) (seam_ends x y) (get_or T j 0)) (climb_other K (table_of K E own (get_or T i 0)) (table_of K F other) (seam_ends x y) (get_or T j 0))
  climbed_same T E F x y p q h h' own other i j l l' =
      let s = place E (get_or T i 0) in
      let t = get_or T j 0 in
      ap (λ v. climb_by own other v p.low p.high q.low q.high (get_or p.at j 0) (get_or q.at j 0) (ltb (get_or p.at j 0) p.count)) (h.there i l)
      ∙ ap (λ v. climb_by own other s v p.high q.low q.high (get_or p.at j 0) (get_or q.at j 0) (ltb (get_or p.at j 0) p.count)) h.low_there
      ∙ ap (λ v. climb_by own other s (place E x) v q.low q.high (get_or p.at j 0) (get_or q.at j 0) (ltb (get_or p.at j 0) p.count)) h.high_there
      ∙ ap (λ v. climb_by own other s (place E x) (place E y) v q.high (get_or p.at j 0) (get_or q.at j 0) (ltb (get_or p.at j 0) p.count)) h'.low_there
      ∙ ap (λ v. climb_by own other s (place E x) (place E y) (place F x) v (get_or p.at j 0) (get_or q.at j 0) (ltb (get_or p.at j 0) p.count)) h'.high_there
      ∙ ap (λ v. climb_by own other s (place E x) (place E y) (place F x) (place F y) v (get_or q.at j 0) (ltb v p.count)) (h.there j l')
      ∙ ap (λ v. climb_by own other s (place E x) (place E y) (place F x) (place F y) (place E t) v (ltb (place E t) p.count)) (h'.there j l')
      ∙ ap (λ v. climb_by own other s (place E x) (place E y) (place F x) (place F y) (place E t) (place F t) (ltb (place E t) v)) h.counted
      ∙ ap (λ v. climb_by own other s (place E x) (place E y) (place F x) (place F y) (place E t) (place F t) v) (sym (among_place E t))

  module _ (P A B : Piece) (x y : ℕ) (p q : Part) (h : PartShows (listed P.edges) (listed A.edges) x y p) (h' : PartShows (listed P.edges) (listed B.edges) x y q) (a b : List M) where
    abbrev T : List ℕ
    T = listed P.edges

    by_child : (c : Bool) (i j : ℕ) → i < length T → j < length T → cond c (climbed_at K p q a b (get_or p.at i 0) j) (climbed_at K q p b a (get_or q.at i 0) j) ≡ climbed K A B a b x y c (child_table K A B a b c (get_or T i 0)) (get_or T j 0)
    by_child true i j l l' = climbed_same T (listed A.edges) (listed B.edges) x y p q h h' a b i j l l'
    by_child false i j l l' = climbed_same T (listed B.edges) (listed A.edges) x y q p h' h b a i j l l'

    entry_same : (i j : ℕ) → i < length T → j < length T → entry_at K p q a b i j ≡ parent_entry K A B a b x y (get_or T i 0) (get_or T j 0)
    entry_same i j l l' =
        ap (λ v. cond (ltb v p.count) (climbed_at K p q a b (get_or p.at i 0) j) (climbed_at K q p b a (get_or q.at i 0) j)) (h.there i l)
        ∙ ap (λ v. cond (ltb (place (listed A.edges) (get_or T i 0)) v) (climbed_at K p q a b (get_or p.at i 0) j) (climbed_at K q p b a (get_or q.at i 0) j)) h.counted
        ∙ ap (λ v. cond v (climbed_at K p q a b (get_or p.at i 0) j) (climbed_at K q p b a (get_or q.at i 0) j)) (sym (among_place (listed A.edges) (get_or T i 0)))
        ∙ by_child (among (listed A.edges) (get_or T i 0)) i j l l'

    -- eight rows by places are the parent's sheet
    pub rows_are_sheet : (count : ℕ) (sheet : List M) → count ≡ length T → count ≤ 8 → ((i k : ℕ) → i < 8 → k < 8 → get_or sheet (8 * i + k) K.none ≡ cond (ltb k (cond (ltb i count) count 0)) (entry_at K p q a b i k) K.none) → ParentSheet K P A B x y a b sheet
    rows_are_sheet count sheet e few rows = record {
      climbs = λ i j l l'.
          rows i j (omega (arith, e)) (omega (arith, e))
          ∙ cond-true (ltb j (cond (ltb i count) count 0)) (entry_at K p q a b i j) K.none
          (ap (λ c. ltb j (cond c count 0)) (lt-ltb i count (omega (arith, e))) ∙ lt-ltb j count (omega (arith, e)))
          ∙ entry_same i j l l';
      row_unused = λ i j l m m'.
          rows i j m m'
          ∙ cond-false (ltb j (cond (ltb i count) count 0)) (entry_at K p q a b i j) K.none
          (ap (λ c. ltb j (cond c count 0)) (le-ltb i count (omega (arith, e))) ∙ le-ltb j 0 (omega arith));
      column_unused = λ i j m l m'.
          rows i j m m'
          ∙ ⊎_elim
          (λ z. cond-false (ltb j (cond (ltb i count) count 0)) (entry_at K p q a b i j) K.none
          (ap (λ c. ltb j (cond c count 0)) (lt-ltb i count z) ∙ le-ltb j count (omega (arith, e))))
          (λ z. cond-false (ltb j (cond (ltb i count) count 0)) (entry_at K p q a b i j) K.none
          (ap (λ c. ltb j (cond c count 0)) (le-ltb i count z) ∙ le-ltb j 0 (omega arith)))
          (cases_lt i count);
    }

  module _ {V : Type 0} (means : V → M) where
    mid_mapped : (a n : ℕ) (xs ys : List V) → map means (put_mid a n xs ys) ≡ take a (map means xs) ++ (map means ys ++ map means (post_of a n xs))
    mid_mapped a n xs ys =
        map-append means (take a xs) (ys ++ post_of a n xs)
        ∙ ap (λ v. v ++ map means (ys ++ post_of a n xs)) (sym (take-map means a xs))
        ∙ ap (λ v. take a (map means xs) ++ v) (map-append means ys (post_of a n xs))

    -- one more row of 8 places is written
    pub rows_next : (f : ℕ → ℕ → M) (xs ys : List V) (i n : ℕ) → 8 * i + 8 ≤ length xs → length ys ≡ 8 → ((r k : ℕ) → r < i → k < 8 → get_or (map means xs) (8 * r + k) K.none ≡ f r k) → ((k : ℕ) → k < 8 → get_or (map means ys) k K.none ≡ f i k) → (r k : ℕ) → r < i + 1 → k < 8 → get_or (map means (put_mid (8 * i) n xs ys)) (8 * r + k) K.none ≡ f r k
    rows_next f xs ys i n l e before here r k m m' =
        ap (λ v. get_or v (8 * r + k) K.none) (mid_mapped (8 * i) n xs ys)
        ∙ ⊎_elim
        (λ z. subst (λ v. get_or (take (8 * i) (map means xs) ++ (map means ys ++ map means (post_of (8 * i) n xs))) (8 * v + k) K.none ≡ f v k) (sym z)
        (get_or-append_right (take (8 * i) (map means xs)) (map means ys ++ map means (post_of (8 * i) n xs)) (8 * i) (8 * i + k) K.none front (omega arith)
        ∙ get_or_append_left (map means ys) (map means (post_of (8 * i) n xs)) K.none (8 * i + k - 8 * i) (omega (arith, length-map ys means))
        ∙ ap (λ v. get_or (map means ys) v K.none) (omega arith)
        ∙ here k m'))
        (⊎_elim
        (λ z.
        get_or_append_left (take (8 * i) (map means xs)) (map means ys ++ map means (post_of (8 * i) n xs)) K.none (8 * r + k) (omega (arith, front))
        ∙ get_or-take (8 * i) (map means xs) (8 * r + k) K.none (omega arith)
        ∙ before r k z m')
        (λ z. absurd (omega arith)))
        (cases_order r i)
      where
        front : length (take (8 * i) (map means xs)) ≡ 8 * i
        front = omega (arith, length-take (8 * i) (map means xs), length-map xs means)
