-- Sheets that are not written, and pieces whose lanes stay, show what they showed.
-- Assumes the laws where a kind is named.
use Rattle.std.proofs.Common.{◌≡◌, ℕ, ◌+◌, ◌-◌, ◌*◌, ◌<◌, true, cond, List, get_or, take, drop, sym, ap, ◌∙◌, subst, ⊎_elim, arith}
use mathlib.Core.Path.{fun_ext}
use Rattle.std.proofs.lemmas.Bool.{cases_order, cases_Bool, cond-true, cond-false}
use Rattle.std.proofs.lemmas.List.{drop-take, drop-drop, take-take}
use Rattle.rates.specs.Kinds.{Kind}
use Rattle.trips.specs.Trips.{LaneMap, BestRate}
use Rattle.records.specs.declared.Piece.{Piece}
use Rattle.records.specs.Few.{listed}
use Rattle.pieces.specs.Sides.{Ends}
use Rattle.piece_rates.specs.Lanes.{RunsAlong, HoldsLane, holds_lane, piece_lanes}
use Rattle.piece_rates.specs.Sheets.{SheetShows}
use Rattle.piece_rates.specs.Changes.{OnlySheet, SameBut}
use Rattle.piece_rates.proofs.Holding.{holds_lane_found}

-- a sheet before the place 64p lies in the front, one after it in the rest
early : {X : Type 0} (q p : ℕ) (xs : List X) → q < p → take 64 (drop (64 * q) xs) ≡ drop (64 * q) (take (64 * q + 64) (take (64 * p) xs))
early q p xs l = sym (ap (drop (64 * q)) (take-take (64 * q + 64) (64 * p) xs (omega arith)) ∙ drop-take (64 * q) 64 xs)

late : {X : Type 0} (q p : ℕ) (xs : List X) → p < q → take 64 (drop (64 * q) xs) ≡ take 64 (drop (64 * q - (64 * p + 64)) (drop (64 * p + 64) xs))
late q p xs l =
    let z : 64 * p + 64 + (64 * q - (64 * p + 64)) ≡ 64 * q = omega arith in
    sym (ap (take 64) (drop-drop (64 * q - (64 * p + 64)) (64 * p + 64) xs ∙ ap (λ k. drop k xs) z))

-- the sheet of another piece is as it was
pub other_sheet : {X : Type 0} (p q : ℕ) (before after : List X) → OnlySheet p before after → (q ≡ p → ⊥) → take 64 (drop (64 * q) after) ≡ take 64 (drop (64 * q) before)
other_sheet p q before after h ne =
    ⊎_elim (λ z. absurd (ne z))
    (⊎_elim
    (λ l. early q p after l ∙ ap (λ v. drop (64 * q) (take (64 * q + 64) v)) h.earlier ∙ sym (early q p before l))
    (λ l. late q p after l ∙ ap (λ v. take 64 (drop (64 * q - (64 * p + 64)) v)) h.later ∙ sym (late q p before l)))
    (cases_order q p)

module _ {M : Type 0} (K : Kind M) where
  -- a piece that holds none of the lanes along a side has the same lanes after they change
  pub lanes_stay : (n : ℕ) (e : Ends) (P : Piece) (i : ℕ) (m m' : LaneMap M) → SameBut K e i m m' → ((u v : ℕ) → RunsAlong e i u v → HoldsLane n e P u v → ⊥) → piece_lanes K n e P m ≡ piece_lanes K n e P m'
  lanes_stay n e P i m m' same away = fun_ext (λ u. fun_ext (λ v. at u v))
    where
      held : (u v : ℕ) → holds_lane n e P u v ≡ true → m u v ≡ m' u v
      held u v t = same u v (λ r. away u v r (holds_lane_found n e P u v t))

      at : (u v : ℕ) → cond (holds_lane n e P u v) (m u v) K.none ≡ cond (holds_lane n e P u v) (m' u v) K.none
      at u v =
          ⊎_elim
          (λ t. cond-true (holds_lane n e P u v) (m u v) K.none t ∙ held u v t ∙ sym (cond-true (holds_lane n e P u v) (m' u v) K.none t))
          (λ t. cond-false (holds_lane n e P u v) (m u v) K.none t ∙ sym (cond-false (holds_lane n e P u v) (m' u v) K.none t))
          (cases_Bool (holds_lane n e P u v))

  pub shows_same_lanes : (n : ℕ) (e : Ends) (P : Piece) (m m' : LaneMap M) (sheet : List M) → piece_lanes K n e P m ≡ piece_lanes K n e P m' → SheetShows K n e P m sheet → SheetShows K n e P m' sheet
  shows_same_lanes n e P m m' sheet z h = record {
    best = λ i j p q. subst (λ l. BestRate K l (get_or (listed P.edges) i 0) (get_or (listed P.edges) j 0) (get_or sheet (8 * i + j) K.none)) z (h.best i j p q);
    row_unused = h.row_unused;
    column_unused = h.column_unused;
  }
