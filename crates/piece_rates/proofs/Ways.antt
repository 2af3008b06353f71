-- The sheets on a way up, rewritten from the lowest on: what is left to rewrite, and why each finds its parts' sheets right.
-- Assumes a division where one is named.
use Rattle.std.proofs.Common.{◌≡◌, ℕ, zero, suc, ◌+◌, ◌*◌, ◌<◌, ◌≤◌, true, false, cond, ltb, List, [], ◌∷◌, map, length, take, drop, sym, ap, ◌∙◌, subst, inl, inr, ⊎_elim, arith}
use Rattle.std.proofs.lemmas.Bool.{cases_eq, cond-true, cond-false, cond_both, and_parts, ltb-true}
use Rattle.std.proofs.lemmas.List.{take-map, drop-map}
use Rattle.rates.specs.Kinds.{Kind}
use Rattle.trips.specs.Trips.{LaneMap, Absent, NoneTwice}
use Rattle.records.specs.declared.Piece.{Piece}
use Rattle.records.specs.Few.{Among}
use Rattle.pieces.specs.Sides.{Ends}
use Rattle.pieces.specs.Holding.{piece_at}
use Rattle.pieces.specs.Division.{Division}
use Rattle.pieces.specs.Holders.{climbs, way_up}
use Rattle.piece_rates.specs.Sheets.{SheetShows, sheet_of}
use Rattle.piece_rates.specs.Changes.{OnlySheet, PieceShown, AllShown, PartsRight, OffWayShown}
use Rattle.piece_rates.proofs.Changes.{other_sheet}

module _ (ps : List Piece) where
  pub parent_lower : (p : ℕ) → climbs ps p ≡ true → (piece_at ps p).parent < p
  parent_lower p t = ltb-true (piece_at ps p).parent p (and_parts (ltb p (length ps)) (ltb (piece_at ps p).parent p) t).1

  -- no piece on a way up has a higher number than the first, and none stands there twice
  pub way_below : (f p q : ℕ) → Among q (way_up ps f p) → q ≤ p
  way_below zero p q h = absurd h
  way_below (suc f) p q h =
      ⊎_elim (λ z. omega arith)
      (cond_both (climbs ps p) (way_up ps f (piece_at ps p).parent) [] (λ ws. Among q ws → q ≤ p)
      (λ t k. omega (arith, way_below f (piece_at ps p).parent q k, parent_lower p t)) (λ t k. absurd k)) h

  not_again : (f p : ℕ) → Among p (cond (climbs ps p) (way_up ps f (piece_at ps p).parent) []) → ⊥
  not_again f p =
      cond_both (climbs ps p) (way_up ps f (piece_at ps p).parent) [] (λ ws. Among p ws → ⊥)
      (λ t k. omega (arith, way_below f (piece_at ps p).parent p k, parent_lower p t)) (λ t k. k)

  absent_from : (x : ℕ) (ws : List ℕ) → (Among x ws → ⊥) → Absent x ws
  absent_from x [] h = tt
  absent_from x (w ∷ ws) h = (λ z. h (inl z), absent_from x ws (λ k. h (inr k)))

  pub way_once : (f p : ℕ) → NoneTwice (way_up ps f p)
  way_once zero p = tt
  way_once (suc f) p = (
    absent_from p (cond (climbs ps p) (way_up ps f (piece_at ps p).parent) []) (not_again f p),
    cond_both (climbs ps p) (way_up ps f (piece_at ps p).parent) [] NoneTwice (λ t. way_once f (piece_at ps p).parent) (λ t. tt),
  )

module _ {M : Type 0} (K : Kind M) where
  -- The parts of a cut piece have higher numbers, so they are not on the way up from it, and their sheets are right.
  pub parts_right : (n : ℕ) (e : Ends) (ps : List Piece) (m : LaneMap M) (sheets : List M) (f p : ℕ) → Division n e ps → p + 5 < 2 * n → OffWayShown K n e ps m sheets f p → PartsRight K n e ps m sheets p
  parts_right n e ps m sheets f p d r off cut =
      ⊎_elim (λ u. absurd (cut u.no_first))
      (λ c. (
        off (piece_at ps p).first (omega (arith, c.in_order, c.in_range)) (λ h. omega (arith, way_below ps f p (piece_at ps p).first h, c.first_number)),
        off (piece_at ps p).second c.in_range (λ h. omega (arith, way_below ps f p (piece_at ps p).second h, c.first_number, c.in_order)),
      ))
      (d.stands p r).cut

  module _ {V : Type 0} (means : V → M) where
    pub sheet_mapped : (xs : List V) (q : ℕ) → sheet_of K (map means xs) q ≡ map means (take 64 (drop (64 * q) xs))
    sheet_mapped xs q = ap (take 64) (drop-map means (64 * q) xs) ∙ take-map means 64 (drop (64 * q) xs)

    pub same_mapped : (q : ℕ) (before after : List V) → take 64 (drop (64 * q) after) ≡ take 64 (drop (64 * q) before) → sheet_of K (map means after) q ≡ sheet_of K (map means before) q
    same_mapped q before after z = sheet_mapped after q ∙ ap (map means) z ∙ sym (sheet_mapped before q)

    module _ (n : ℕ) (e : Ends) (ps : List Piece) (m : LaneMap M) (before after : List V) (p f : ℕ) (off : OffWayShown K n e ps m (map means before) (suc f) p) (only : OnlySheet p before after) (shown : PieceShown K n e ps m (map means after) p) where
      -- the sheet of p is right now, and the others are as they were
      rest_shown : (q : ℕ) → q + 5 < 2 * n → (Among q (cond (climbs ps p) (way_up ps f (piece_at ps p).parent) []) → ⊥) → PieceShown K n e ps m (map means after) q
      rest_shown q r away =
          ⊎_elim (λ z. subst (PieceShown K n e ps m (map means after)) (sym z) shown)
          (λ ne. subst (SheetShows K n e (piece_at ps q) m) (sym (same_mapped q before after (other_sheet p q before after only ne)))
          (off q r (λ a. ⊎_elim ne away a)))
          (cases_eq q p)

      pub next_shown : (u : ℕ) → climbs ps p ≡ true → u ≡ (piece_at ps p).parent → OffWayShown K n e ps m (map means after) f u
      next_shown u t z q r away =
          rest_shown q r (λ a. away (subst (λ v. Among q (way_up ps f v)) (sym z) (subst (Among q) (cond-true (climbs ps p) (way_up ps f (piece_at ps p).parent) [] t) a)))

      pub all_shown : climbs ps p ≡ false → AllShown K n e ps m (map means after)
      all_shown t q r = rest_shown q r (λ a. subst (Among q) (cond-false (climbs ps p) (way_up ps f (piece_at ps p).parent) [] t) a)
