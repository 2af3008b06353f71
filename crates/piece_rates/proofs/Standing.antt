-- What a plan that stands gives to the writing of one sheet: the premises of a leaf's sheet and of a parent's, and room.
-- Assumes nothing else.
use Rattle.std.proofs.Common.{◌≡◌, ℕ, ◌+◌, ◌*◌, ◌<◌, ◌≤◌, List, length, get_or, take, sym, ◌∙◌, subst, ⊎_elim, arith, length-take}
use Rattle.std.proofs.lemmas.List.{get_or-take}
use Rattle.rates.specs.Kinds.{Kind}
use Rattle.trips.specs.Trips.{LaneMap, BestRate}
use Rattle.ring.specs.declared.Side.{Side}
use Rattle.records.specs.declared.Piece.{Piece}
use Rattle.records.specs.Few.{listed}
use Rattle.pieces.specs.Sides.{Ends, ends_of, span}
use Rattle.pieces.specs.Holding.{piece_at}
use Rattle.pieces.specs.Division.{CutInTwo}
use Rattle.piece_rates.specs.Lanes.{piece_lanes}
use Rattle.piece_rates.specs.Sheets.{SheetShows, sheet_of}
use Rattle.piece_rates.specs.Leaves.{LeafStands}
use Rattle.piece_rates.specs.Parents.{PartsShown}
use Rattle.piece_rates.specs.Changes.{PlanStands, PartsRight}
use Rattle.piece_rates.proofs.Cuts.{cuts_have_shape}

module _ {M : Type 0} (K : Kind M) (n : ℕ) (m : LaneMap M) (sides : List Side) (ps : List Piece) (area sheets : List M) (h : PlanStands K n m sides ps area sheets) (p : ℕ) (r : p + 5 < 2 * n) where
  abbrev e : Ends
  e = ends_of sides

  abbrev P : Piece
  P = piece_at ps p

  -- a record without a first part is that of a piece of one triangle
  pub leaf_stands : P.first ≡ 0 → LeafStands K n e m P area
  leaf_stands z = record {
    lanes = h.lanes;
    filled = h.filled;
    uncut = ⊎_elim (λ u. u) (λ c. absurd (omega (arith, c.first_number))) (h.division.stands p r).cut;
    top_in_range = (h.division.stands p r).top_in_range;
    shown = h.shown;
  }

  is_cut : (P.first ≡ 0 → ⊥) → CutInTwo n (span e) p P (piece_at ps P.first) (piece_at ps P.second)
  is_cut z = ⊎_elim (λ u. absurd (z u.no_first)) (λ c. c) (h.division.stands p r).cut

  pub parts_room : (P.first ≡ 0 → ⊥) → (64 * P.first + 64 ≤ length sheets) × (64 * P.second + 64 ≤ length sheets)
  parts_room z = let c = is_cut z in (omega (arith, c.in_order, c.in_range, h.all_sheets), omega (arith, c.in_range, h.all_sheets))

  pub parts_shown : (P.first ≡ 0 → ⊥) → PartsRight K n e ps m sheets p → PartsShown K n e m P (piece_at ps P.first) (piece_at ps P.second) (e.low P.seam) (e.high P.seam) (sheet_of K sheets P.first) (sheet_of K sheets P.second)
  parts_shown z right = record {
    lanes = h.lanes;
    shape = cuts_have_shape n e ps h.filled h.division p r (is_cut z);
    first_shown = (right z).0;
    second_shown = (right z).1;
  }

  -- of a longer list only the first 64 places count
  pub front_shows : (sheet : List M) → SheetShows K n e P m sheet → SheetShows K n e P m (take 64 sheet)
  front_shows sheet s =
      let few : length (listed P.edges) ≤ 8 = omega (arith, length-take P.edges.count P.edges.at, (h.division.stands p r).edges_pinned.places) in
      record {
        best = λ i j a b. subst (BestRate K (piece_lanes K n e P m) (get_or (listed P.edges) i 0) (get_or (listed P.edges) j 0)) (sym (get_or-take 64 sheet (8 * i + j) K.none (omega arith))) (s.best i j a b);
        row_unused = λ i j a b c. get_or-take 64 sheet (8 * i + j) K.none (omega arith) ∙ s.row_unused i j a b c;
        column_unused = λ i j a b c. get_or-take 64 sheet (8 * i + j) K.none (omega arith) ∙ s.column_unused i j a b c;
      }
