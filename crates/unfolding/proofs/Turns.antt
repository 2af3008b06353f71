-- Parts unfold in one way and in few turns.
-- Assumes the laws of the kind where a plan in order is named.
use Rattle.std.proofs.Common.{◌≡◌, ℕ, ◌+◌, ◌-◌, ◌*◌, ◌<◌, ◌≤◌, List, [], ◌∷◌, ◌++◌, length, sym, refl, ap, ◌∙◌, subst, inl, inr, append-nil, arith, length-take}
use Rattle.std.proofs.ByRecursion.{All-weaker}
use Rattle.rates.specs.Kinds.{Kind, Laws}
use Rattle.trips.specs.Trips.{LaneMap}
use Rattle.ring.specs.declared.Side.{Side}
use Rattle.records.specs.declared.Piece.{Piece}
use Rattle.records.specs.declared.Few.{Few}
use Rattle.records.specs.Few.{listed, Pinned}
use Rattle.pieces.specs.Sides.{Ends, ends_of}
use Rattle.pieces.specs.Holding.{piece_at}
use Rattle.unfolding.specs.Parts.{Part, part_rate, split, leaf_stops}
use Rattle.unfolding.specs.Splitting.{Leaf, Cut, Rated, PartStands}
use Rattle.unfolding.specs.Turns.{Unfolds, UnfoldsToBest, PartsUnfold, FewParts, OneTurn, TurnByTurn}
use Rattle.unfolding.specs.Turns.Unfolds.{done, empty, leaf, cut}
use Rattle.unfolding.proofs.LeafStops.{along_book}
use Rattle.unfolding.proofs.Apart.{five_each}
use Rattle.unfolding.proofs.Growing.{Unfolded, unfolded, may_end}

few_listed : (f : Few) → Pinned f → length (listed f) ≤ 8
few_listed f h = omega (arith, length-take f.count f.at, h.room)

module _ {M : Type 0} (K : Kind M) where
  -- a leaf is not cut
  not_both_kinds : (n : ℕ) (e : Ends) (ps : List Piece) (p : ℕ) → Leaf n e ps p → Cut n e ps p → ⊥
  not_both_kinds n e ps p l c = omega (arith, l.one_triangle, c.several)

  module _ (n : ℕ) (e : Ends) (ps : List Piece) (area : List M) (best : ℕ → ℕ → ℕ → M) where
    one_turn : (q : Part) (parts : List Part) (stops : List ℕ) (k : ℕ) → Unfolds K n e ps area best (q ∷ parts) stops k → OneTurn K n e ps area best q parts stops k
    one_turn q parts stops k (empty z u) = record { no_turn = λ w. u; leaf_turn = λ d l. absurd (d z); cut_turn = λ d c. absurd (d z) }
    one_turn q parts stops k (leaf {stops = rest} {k = j} d l u a b) = record {
      no_turn = λ z. absurd (d z);
      leaf_turn = λ d' l'. (rest, j, a, b, u);
      cut_turn = λ d' c. absurd (not_both_kinds n e ps q.piece l c);
    }
    one_turn q parts stops k (cut {k = j} d c u b) = record {
      no_turn = λ z. absurd (d z);
      leaf_turn = λ d' l. absurd (not_both_kinds n e ps q.piece l c);
      cut_turn = λ d' c'. (j, b, u);
    }

    unfolds_nothing : (stops : List ℕ) (k : ℕ) → Unfolds K n e ps area best [] stops k → (stops ≡ []) × (k ≡ 0)
    unfolds_nothing stops k done = (refl, refl)

    -- the parts tell the stops and the turns
    pub unique : (parts : List Part) (stops list : List ℕ) (k j : ℕ) → Unfolds K n e ps area best parts stops k → Unfolds K n e ps area best parts list j → (list ≡ stops) × (j ≡ k)
    unique parts stops list k j done v = unfolds_nothing list j v
    unique parts stops list k j (empty {q = q} {parts = rest} z u) v = unique rest stops list k j u ((one_turn q rest list j v).no_turn z)
    unique parts stops list k j (leaf {q = q} {parts = rest} {stops = later} {k = i} d l u a b) v =
        let t = (one_turn q rest list j v).leaf_turn d l in
        let h = unique rest later t.0 i t.1 u t.4 in
        let z = h.1 in
        let w = t.3 in
        (t.2 ∙ ap (λ s. leaf_stops K e ps area q ++ s) h.0 ∙ sym a, omega arith)
    unique parts stops list k j (cut {q = q} {parts = rest} {k = i} d c u b) v =
        let t = (one_turn q rest list j v).cut_turn d c in
        let h = unique (split K best e ps q ++ rest) stops list i t.0 u t.2 in
        let z = h.1 in
        let w = t.1 in
        (h.0, omega arith)

  pub turn_by_turn : TurnByTurn K
  turn_by_turn n e ps area best q parts stops k u = one_turn n e ps area best q parts stops k u

module _ {M : Type 0} (K : Kind M) (X : Laws K) where
  module _ (n : ℕ) (m : LaneMap M) (sides : List Side) (ps : List Piece) (area sheets : List M) (best : ℕ → ℕ → ℕ → M)
      (rated : Rated K n m sides ps area sheets best) (q : Part) (h : PartStands K n (ends_of sides) ps best q) where
    abbrev u : Unfolded K X n m sides ps area sheets best rated q
    u = unfolded K X n m sides ps area sheets best rated q h

    alone : Unfolds K n (ends_of sides) ps area best (q ∷ []) u.stops (length u.met)
    alone =
        let z : length u.met + 0 ≡ length u.met = omega arith in
        subst (λ k. Unfolds K n (ends_of sides) ps area best (q ∷ []) u.stops k) z
        (subst (λ s. Unfolds K n (ends_of sides) ps area best (q ∷ []) s (length u.met + 0)) (append-nil u.stops) (u.unfolds [] [] 0 done))

    to_best : UnfoldsToBest K n m (ends_of sides) ps area best q
    to_best = record {
      stops = u.stops;
      turns = length u.met;
      unfolds = alone;
      only = λ list k v. unique K n (ends_of sides) ps area best (q ∷ []) u.stops list (length u.met) k alone v;
      within_piece = u.along;
      in_book = along_book K X n (ends_of sides) (piece_at ps q.piece) m q.from q.to (part_rate K best q) u.stops u.along;
    }

    -- the ends that a part may have at a piece: those of q, and the piece's edge terminals, at most eight
    few_met : length u.met ≤ 5 * (2 * n - 5)
    few_met =
        five_each (may_end K X n m sides ps area sheets best rated q.from q.to) (2 * n - 5)
        (λ p l. omega (arith, few_listed (piece_at ps p).edges (rated.in_order.stands.division.stands p (omega arith)).edges_pinned))
        u.met (All-weaker (λ r. r.piece + 5 < 2 * n) (λ r. r.piece < 2 * n - 5) (λ r k. omega arith) u.met u.in_range)
        u.apart (u.known q.from q.to (inl refl, inr (inl refl)))

    few_turns : (stops : List ℕ) (k : ℕ) → Unfolds K n (ends_of sides) ps area best (q ∷ []) stops k → k ≤ 5 * (2 * n - 5)
    few_turns stops k v =
        subst (λ j. j ≤ 5 * (2 * n - 5)) (sym (unique K n (ends_of sides) ps area best (q ∷ []) u.stops stops (length u.met) k alone v).1) few_met

  pub parts_unfold : PartsUnfold K
  parts_unfold n m sides ps area sheets best rated q h = to_best n m sides ps area sheets best rated q h

  pub few_parts : FewParts K
  few_parts n m sides ps area sheets best rated q h stops k v = few_turns n m sides ps area sheets best rated q h stops k v
