-- Within one triangle the lane, or the two lanes by the third corner, have the best rate.
-- Assumes the laws of the kind and a plan in order with the best rates within its pieces.
use Rattle.std.proofs.Common.{◌≡◌, ℕ, ◌+◌, cond, eqb, List, [], ◌∷◌, sym, refl, ap, ◌∙◌, subst}
use mathlib.Core.Path.{fun_ext}
use Rattle.std.proofs.lemmas.Bool.{cond-true, cond-false, cond_both, ne_eqb}
use Rattle.rates.specs.Kinds.{Kind, Laws}
use Rattle.rates.specs.Many.{better_of}
use Rattle.rates.specs.Order.{join_still}
use Rattle.trips.specs.Trips.{LaneMap, BestRate}
use Rattle.trips.proofs.Shown.{best_rate_unique, best_rate_exists}
use Rattle.ring.specs.declared.Side.{Side}
use Rattle.records.specs.declared.Piece.{Piece}
use Rattle.pieces.specs.Sides.{Ends, ends_of}
use Rattle.pieces.specs.Holding.{piece_at}
use Rattle.piece_rates.specs.Lanes.{piece_lanes}
use Rattle.piece_rates.specs.Triangles.{third_corner, triangle_entry}
use Rattle.piece_rates.specs.Leaves.{LeafStands}
use Rattle.piece_rates.proofs.Leaves.{leaf_held, three}
use Rattle.piece_rates.proofs.Sizes.{piece_fewer, piece_no_earning}
use Rattle.piece_rates.proofs.Triangles.{triangle_entries_best}
use Rattle.unfolding.specs.Parts.{Part, part_rate, triangle_stops, leaf_stops}
use Rattle.unfolding.specs.Splitting.{Leaf, Rated, PartStands, TripAlong, BestWithinExists, LeafStopsAreBest}
use Rattle.unfolding.proofs.Splits.{left_stands, right_stands}
use Rattle.unfolding.proofs.Along.{linked_fewer}

module _ {M : Type 0} (K : Kind M) (X : Laws K) where
  -- a trip over a piece's lanes is one over the book's
  pub along_book : (n : ℕ) (e : Ends) (P : Piece) (m : LaneMap M) (u v : ℕ) (r : M) (list : List ℕ) → TripAlong K (piece_lanes K n e P m) u v r list → TripAlong K m u v r list
  along_book n e P m u v r list t =
      let k = linked_fewer K X (piece_lanes K n e P m) m (piece_fewer K X n e P m) u list t.linked in
      record { linked = k.0; ends_there = t.ends_there; rate_is = k.1 ∙ t.rate_is }

  -- the better of the lane and the way by w
  triangle_along : (l : LaneMap M) (u v w : ℕ) (r : M) → r ≡ better_of K (l u v) (K.join (l u w) (l w v)) → (r ≡ K.none → ⊥)
      → TripAlong K l u v r (cond (K.better (K.join (l u w) (l w v)) (l u v)) (w ∷ v ∷ []) (v ∷ []))
  triangle_along l u v w r z st =
      cond_both (K.better (K.join (l u w) (l w v)) (l u v)) (w ∷ v ∷ []) (v ∷ []) (TripAlong K l u v r)
      (λ t.
      let q : r ≡ K.join (l u w) (l w v) = z ∙ cond-true (K.better (K.join (l u w) (l w v)) (l u v)) (K.join (l u w) (l w v)) (l u v) t in
      let s : K.join (l u w) (l w v) ≡ K.none → ⊥ = λ k. st (q ∙ k) in
      record {
        linked = (left_stands K X (l u w) (l w v) s, (right_stands K X (l u w) (l w v) s, tt));
        ends_there = refl;
        rate_is = ap (K.join (l u w)) (join_still K X (l w v)) ∙ sym q;
      })
      (λ t.
      let q : r ≡ l u v = z ∙ cond-false (K.better (K.join (l u w) (l w v)) (l u v)) (K.join (l u w) (l w v)) (l u v) t in
      record { linked = (λ k. st (q ∙ k), tt); ends_there = refl; rate_is = join_still K X (l u v) ∙ sym q })

  module _ (n : ℕ) (m : LaneMap M) (sides : List Side) (ps : List Piece) (area sheets : List M) (best : ℕ → ℕ → ℕ → M)
      (rated : Rated K n m sides ps area sheets best) where
    abbrev e : Ends
    e = ends_of sides

    module _ (q : Part) (h : PartStands K n e ps best q) (leaf : Leaf n e ps q.piece) where
      abbrev P : Piece
      P = piece_at ps q.piece

      abbrev L : LaneMap M
      L = piece_lanes K n e P m

      abbrev w : ℕ
      w = third_corner (e.low P.top) (e.high (P.top + 1)) (e.high P.top) q.from q.to

      stands : LeafStands K n e m P area
      stands = record {
        lanes = rated.in_order.stands.lanes;
        filled = rated.in_order.stands.filled;
        uncut = leaf;
        top_in_range = (rated.in_order.stands.division.stands q.piece h.in_range).top_in_range;
        shown = rated.in_order.stands.shown;
      }

      entry : part_rate K best q ≡ better_of K (L q.from q.to) (K.join (L q.from w) (L w q.to))
      entry =
          best_rate_unique K X L q.from q.to (part_rate K best q) (triangle_entry K (e.low P.top) (e.high (P.top + 1)) (e.high P.top) L q.from q.to)
          (rated.best_within q.piece h.in_range q.from q.to h.from_touches h.to_touches)
          (triangle_entries_best K X (e.low P.top) (e.high (P.top + 1)) (e.high P.top) L (three K X n e m P area stands)
          (piece_no_earning K X n e P m rated.in_order.stands.lanes.no_earning) q.from q.to)
          ∙ cond-false (eqb q.from q.to) K.still (better_of K (L q.from q.to) (K.join (L q.from w) (L w q.to))) (ne_eqb q.from q.to h.ends_differ)

      pub leaf_along : TripAlong K L q.from q.to (part_rate K best q) (leaf_stops K e ps area q)
      leaf_along =
          subst (λ l. TripAlong K L q.from q.to (part_rate K best q) (triangle_stops K l (e.low P.top) (e.high (P.top + 1)) (e.high P.top) q.from q.to))
          (fun_ext (λ i. fun_ext (λ j. leaf_held K X n e m P area stands i j)))
          (triangle_along L q.from q.to w (part_rate K best q) entry h.some_trip)

  pub leaf_stops_are_best : LeafStopsAreBest K
  leaf_stops_are_best n m sides ps area sheets best rated q h leaf =
      let t = leaf_along n m sides ps area sheets best rated q h leaf in
      (t, along_book n (ends_of sides) (piece_at ps q.piece) m q.from q.to (part_rate K best q) (leaf_stops K (ends_of sides) ps area q) t)

  pub best_within_exists : BestWithinExists K
  best_within_exists n m sides ps area sheets o =
      (λ p u v. (found p u v).0, λ p r u v tu tv. (found p u v).1)
    where
      found : (p u v : ℕ) → (r : M) × BestRate K (piece_lanes K n (ends_of sides) (piece_at ps p) m) u v r
      found p u v =
          let f = piece_fewer K X n (ends_of sides) (piece_at ps p) m in
          best_rate_exists K X (piece_lanes K n (ends_of sides) (piece_at ps p) m) n
          (λ a b s. o.stands.lanes.over a b (λ z. s (f a b s ∙ z)))
          (piece_no_earning K X n (ends_of sides) (piece_at ps p) m o.stands.lanes.no_earning) u v
