-- One sheet written, from what its writing promises; and one more of a row of sheets.
-- Assumes nothing.
use Rattle.std.proofs.Common.{◌≡◌, ℕ, ◌+◌, ◌-◌, ◌*◌, ◌<◌, ◌≤◌, List, ◌++◌, map, length, get_or, take, drop, sym, ap, ◌∙◌, subst, ⊎_elim, arith, length-take}
use borrow.Rule.Slice.PartMut.{put_mid, post_of}
use Rattle.std.proofs.lemmas.Bool.{cases_order}
use Rattle.std.proofs.lemmas.List.{get_or_append_left, get_or-append_right, length-map, map-append, take-map, get_or-take}
use Rattle.rates.specs.Kinds.{Kind}
use Rattle.trips.specs.Trips.{LaneMap}
use Rattle.ring.specs.declared.Side.{Side}
use Rattle.records.specs.declared.Piece.{Piece}
use Rattle.pieces.specs.Sides.{ends_of}
use Rattle.pieces.specs.Holding.{piece_at}
use Rattle.piece_rates.specs.Sheets.{SheetShows, sheet_of}
use Rattle.piece_rates.specs.Parents.{PartsShown}
use Rattle.piece_rates.specs.Changes.{PlanStands, PartsRight, PieceShown}
use Rattle.piece_rates.proofs.Ways.{sheet_mapped}
use Rattle.piece_rates.proofs.Standing.{parts_shown, front_shows}
use Rattle.sheets.specs.declared.parent.Cut.{Cut}

-- the part of all sheets that is lent as the sheet of the piece f
abbrev pub lent : {X : Type 0} → ℕ → List X → List X
lent f xs = take 64 (drop (64 * f) xs)

-- a piece with its parts and the ends of its seam
abbrev pub cut_at : List Side → List Piece → Piece → Cut
cut_at sides ps P = record { piece = P; first = piece_at ps P.first; second = piece_at ps P.second; low = (ends_of sides).low P.seam; high = (ends_of sides).high P.seam }

module _ {M : Type 0} (K : Kind M) {V : Type 0} (means : V → M) where
  lent_is : (f : ℕ) (xs : List V) → map means (lent f xs) ≡ sheet_of K (map means xs) f
  lent_is f xs = sym (sheet_mapped K means xs f)

  module _ (n : ℕ) (m : LaneMap M) (sides : List Side) (ps : List Piece) (area : List M) (sheets : List V) (h : PlanStands K n m sides ps area (map means sheets)) (p : ℕ) (r : p + 5 < 2 * n) where
    abbrev WrittenFrom : Cut → List V → List V → List M → Type 0
    WrittenFrom cut a b sheet =
        PartsShown K n (ends_of sides) m cut.piece cut.first cut.second cut.low cut.high (map means a) (map means b)
        → SheetShows K n (ends_of sides) cut.piece m sheet

    abbrev Written : Cut → Piece → List M → Type 0
    Written cut P sheet = WrittenFrom cut (lent P.first sheets) (lent P.second sheets) sheet

    -- what the writing of a parent's sheet promises of its cut is what the plan asks of the piece
    at_piece : (sheet : List M) → PartsRight K n (ends_of sides) ps m (map means sheets) p → ((piece_at ps p).first ≡ 0 → ⊥) → Written (cut_at sides ps (piece_at ps p)) (piece_at ps p) sheet → SheetShows K n (ends_of sides) (piece_at ps p) m sheet
    at_piece sheet right z w =
        let P = piece_at ps p in
        let Q : List M → List M → Type 0 = PartsShown K n (ends_of sides) m P (piece_at ps P.first) (piece_at ps P.second) ((ends_of sides).low P.seam) ((ends_of sides).high P.seam) in
        w (subst (λ v. Q v (map means (lent P.second sheets))) (sym (lent_is P.first sheets))
        (subst (Q (sheet_of K (map means sheets) P.first)) (sym (lent_is P.second sheets)) (parts_shown K n m sides ps area (map means sheets) h p r z right)))

    cut_shown : (sheet : List M) (P : Piece) (cut : Cut) → PartsRight K n (ends_of sides) ps m (map means sheets) p → P ≡ piece_at ps p → cut ≡ cut_at sides ps P → (P.first ≡ 0 → ⊥) → Written cut P sheet → SheetShows K n (ends_of sides) (piece_at ps p) m sheet
    cut_shown sheet P cut right s t =
        subst (λ (c : Cut). (P.first ≡ 0 → ⊥) → Written c P sheet → SheetShows K n (ends_of sides) (piece_at ps p) m sheet) (sym t)
        (subst (λ (Q : Piece). (Q.first ≡ 0 → ⊥) → Written (cut_at sides ps Q) Q sheet → SheetShows K n (ends_of sides) (piece_at ps p) m sheet) (sym s) (at_piece sheet right))

    pub parent_shown : (sheet : List M) (P : Piece) (cut : Cut) (a b : List V) → a ≡ lent P.first sheets → b ≡ lent P.second sheets → PartsRight K n (ends_of sides) ps m (map means sheets) p → P ≡ piece_at ps p → cut ≡ cut_at sides ps P → (P.first ≡ 0 → ⊥) → WrittenFrom cut a b sheet → SheetShows K n (ends_of sides) (piece_at ps p) m sheet
    parent_shown sheet P cut a b from to right s t z w =
        cut_shown sheet P cut right s t z
        (subst (λ v. WrittenFrom cut v (lent P.second sheets) sheet) from (subst (λ v. WrittenFrom cut a v sheet) to w))

    -- a sheet shows what the work area showed that it was copied from
    pub copied_shows : (work after : List V) → take 64 (drop (64 * p) after) ≡ take 64 work → SheetShows K n (ends_of sides) (piece_at ps p) m (map means work) → PieceShown K n (ends_of sides) ps m (map means after) p
    copied_shows work after z s =
        subst (SheetShows K n (ends_of sides) (piece_at ps p) m) (take-map means 64 work ∙ sym (ap (map means) z) ∙ sym (sheet_mapped K means after p))
        (front_shows K n m sides ps area (map means sheets) h p r (map means work) s)

  mid_mapped : (a n : ℕ) (xs ys : List V) → map means (put_mid a n xs ys) ≡ take a (map means xs) ++ (map means ys ++ map means (post_of a n xs))
  mid_mapped a n xs ys =
      map-append means (take a xs) (ys ++ post_of a n xs)
      ∙ ap (λ v. v ++ map means (ys ++ post_of a n xs)) (sym (take-map means a xs))
      ∙ ap (λ v. take a (map means xs) ++ v) (map-append means ys (post_of a n xs))

  -- one more sheet is written
  pub sheets_next : (f : ℕ → ℕ → M) (xs ys : List V) (i n : ℕ) → 64 * i + 64 ≤ length xs → length ys ≡ 64 → ((r k : ℕ) → r < i → k < 64 → get_or (map means xs) (64 * r + k) K.none ≡ f r k) → ((k : ℕ) → k < 64 → get_or (map means ys) k K.none ≡ f i k) → (r k : ℕ) → r < i + 1 → k < 64 → get_or (map means (put_mid (64 * i) n xs ys)) (64 * r + k) K.none ≡ f r k
  sheets_next f xs ys i n l e before here r k m m' =
      ap (λ v. get_or v (64 * r + k) K.none) (mid_mapped (64 * i) n xs ys)
      ∙ ⊎_elim
      (λ z. subst (λ v. get_or (take (64 * i) (map means xs) ++ (map means ys ++ map means (post_of (64 * i) n xs))) (64 * v + k) K.none ≡ f v k) (sym z)
      (get_or-append_right (take (64 * i) (map means xs)) (map means ys ++ map means (post_of (64 * i) n xs)) (64 * i) (64 * i + k) K.none front (omega arith)
      ∙ get_or_append_left (map means ys) (map means (post_of (64 * i) n xs)) K.none (64 * i + k - 64 * i) (omega (arith, length-map ys means))
      ∙ ap (λ v. get_or (map means ys) v K.none) (omega arith)
      ∙ here k m'))
      (⊎_elim
      (λ z.
      get_or_append_left (take (64 * i) (map means xs)) (map means ys ++ map means (post_of (64 * i) n xs)) K.none (64 * r + k) (omega (arith, front))
      ∙ get_or-take (64 * i) (map means xs) (64 * r + k) K.none (omega arith)
      ∙ before r k z m')
      (λ z. absurd (omega arith)))
      (cases_order r i)
    where
      front : length (take (64 * i) (map means xs)) ≡ 64 * i
      front = omega (arith, length-take (64 * i) (map means xs), length-map xs means)
