-- A plan in order stays one when a lane's rate changes, once the sheets of the pieces that hold the lane are rewritten.
-- Assumes the laws of the kind.
use Rattle.std.proofs.Common.{◌≡◌, ℕ, ◌+◌, ◌*◌, ◌<◌, ◌≤◌, Bool, true, false, ◌&&◌, eqb, ◌⊎◌, List, length, get_or, set, sym, ap, ◌∙◌, subst, inl, inr, ⊎_elim, arith, length-set}
use Rattle.std.proofs.lemmas.Bool.{cases_Bool, cond-true, cond-false, and_parts, and_from, eqb-true, eq-eqb, both_ways}
use Rattle.std.proofs.lemmas.List.{get_or-set_same, get_or-set_other}
use Rattle.rates.specs.Kinds.{Kind}
use Rattle.trips.specs.Trips.{LaneMap, changed}
use Rattle.ring.specs.declared.Side.{Side}
use Rattle.records.specs.declared.Piece.{Piece}
use Rattle.records.specs.Few.{Among}
use Rattle.pieces.specs.Sides.{Ends, ends_of, span, no_side, Belongs}
use Rattle.pieces.specs.Holding.{piece_at}
use Rattle.pieces.specs.Holders.{way_up, LaneHolders}
use Rattle.pieces.proofs.LaneHolders.{lane_holders}
use Rattle.piece_rates.specs.Lanes.{RunsAlong, HoldsLane, LanesShown}
use Rattle.piece_rates.specs.Sheets.{sheet_of}
use Rattle.piece_rates.specs.Sizes.{PlanLanes}
use Rattle.piece_rates.specs.Changes.{lane_from, lane_to, lane_place, HeldBy, PlanStands, AllShown, OffWayShown, SameBut, MayChange, LaneChanged}
use Rattle.piece_rates.proofs.Changes.{lanes_stay, shows_same_lanes}
use Rattle.piece_rates.proofs.OneSide.{triangle_range, lane_runs, one_place, runs_one, end_below, one_lane}
use Rattle.piece_rates.proofs.Ways.{way_below, way_once}

module _ {M : Type 0} (K : Kind M) where
  -- a plan stands whatever its sheets hold
  pub other_sheets : (n : ℕ) (m : LaneMap M) (sides : List Side) (ps : List Piece) (area sheets sheets' : List M) → PlanStands K n m sides ps area sheets → length sheets ≤ length sheets' → PlanStands K n m sides ps area sheets'
  other_sheets n m sides ps area sheets sheets' h l = record {
    lanes = h.lanes;
    filled = h.filled;
    division = h.division;
    marked = h.marked;
    all_sides = h.all_sides;
    all_pieces = h.all_pieces;
    all_sheets = omega (arith, h.all_sheets);
    shown = h.shown;
  }

  -- the changed lane, and the others
  at_lane : (m : LaneMap M) (a b : ℕ) (r : M) (u v : ℕ) → ((u ≡ a) × (v ≡ b) × (changed K m a b r u v ≡ r)) ⊎ (((u ≡ a) → (v ≡ b) → ⊥) × (changed K m a b r u v ≡ m u v))
  at_lane m a b r u v =
      ⊎_elim
      (λ t. let z = and_parts (eqb u a) (eqb v b) t in inl (eqb-true u a z.0, eqb-true v b z.1, cond-true (eqb u a && eqb v b) r (m u v) t))
      (λ t. inr (λ p q. both_ways (eqb u a && eqb v b) t (and_from (eqb u a) (eqb v b) (eq-eqb u a p) (eq-eqb v b q)), cond-false (eqb u a && eqb v b) r (m u v) t))
      (cases_Bool (eqb u a && eqb v b))

  module _ (n : ℕ) (m : LaneMap M) (sides : List Side) (ps : List Piece) (area sheets : List M) (h : PlanStands K n m sides ps area sheets) (lanes_long : 4 * n ≤ length area + 6) (i : ℕ) (back : Bool) (r : M) (w : MayChange K n (ends_of sides) m i back r) where
    abbrev e : Ends
    e = ends_of sides

    abbrev a : ℕ
    a = lane_from e i back

    abbrev b : ℕ
    b = lane_to e i back

    abbrev m' : LaneMap M
    m' = changed K m a b r

    abbrev at : ℕ
    at = lane_place i back

    runs : (u v : ℕ) → u ≡ a → v ≡ b → RunsAlong e i u v
    runs u v p q = subst (λ x. RunsAlong e i x v) (sym p) (subst (RunsAlong e i a) (sym q) (lane_runs e i back))

    ends_below : (c : Bool) → (lane_from e i c < n) × (lane_to e i c < n)
    ends_below true = let s = end_below n e h.filled i w.side_in_range in (s.1, s.0)
    ends_below false = let s = end_below n e h.filled i w.side_in_range in (s.0, s.1)

    same_but : SameBut K e i m m'
    same_but u v away = ⊎_elim (λ z. absurd (away (runs u v z.0 z.1))) (λ z. sym z.1) (at_lane m a b r u v)

    plan_lanes : PlanLanes K n m'
    plan_lanes = record {
      most_terminals = h.lanes.most_terminals;
      over = λ u v s. ⊎_elim
          (λ z. (omega (arith, z.0, (ends_below back).0), omega (arith, z.1, (ends_below back).1)))
          (λ z. h.lanes.over u v (λ k. s (z.1 ∙ k))) (at_lane m a b r u v);
      lane_rates = λ u v s. ⊎_elim
          (λ z. ⊎_elim (λ k. ap K.lane z.2 ∙ k) (λ k. absurd (s (z.2 ∙ k))) w.lane_rate)
          (λ z. ap K.lane z.1 ∙ h.lanes.lane_rates u v (λ k. s (z.1 ∙ k))) (at_lane m a b r u v);
      no_earning = w.no_earning;
    }

    place_below : (c : Bool) → lane_place i c < length area
    place_below true = omega (arith, w.side_in_range, lanes_long)
    place_below false = omega (arith, w.side_in_range, lanes_long)

    -- the place of the lane along j in a direction, before and after
    shown_before : (j : ℕ) (d : Bool) → j + 3 < 2 * n → m (lane_from e j d) (lane_to e j d) ≡ get_or area (lane_place j d) K.none
    shown_before j true l = h.shown.down j l
    shown_before j false l = h.shown.up j l

    shown_after : (j : ℕ) (d : Bool) → j + 3 < 2 * n → m' (lane_from e j d) (lane_to e j d) ≡ get_or (set area at r) (lane_place j d) K.none
    shown_after j d l =
        ⊎_elim
        (λ z. z.2 ∙ sym (ap (λ k. get_or (set area at r) k K.none) (one_lane n e h.filled j i d back l w.side_in_range z.0 z.1) ∙ get_or-set_same area at r K.none (place_below back)))
        (λ z. z.1 ∙ shown_before j d l ∙ sym (get_or-set_other area at (lane_place j d) r K.none (λ k. let p = one_place e j i d back k in z.0 p.0 p.1)))
        (at_lane m a b r (lane_from e j d) (lane_to e j d))

    lanes_shown : LanesShown K n e (set area at r) m'
    lanes_shown = record {
      up = λ j l. shown_after j false l;
      down = λ j l. shown_after j true l;
      only_sides = λ u v s. ⊎_elim (λ z. (i, w.side_in_range, runs u v z.0 z.1)) (λ z. h.shown.only_sides u v (λ k. s (z.1 ∙ k))) (at_lane m a b r u v);
    }

    pub changed_stands : PlanStands K n m' sides ps (set area at r) sheets
    changed_stands = record {
      lanes = plan_lanes;
      filled = h.filled;
      division = h.division;
      marked = h.marked;
      all_sides = h.all_sides;
      all_pieces = h.all_pieces;
      all_sheets = h.all_sheets;
      shown = lanes_shown;
    }

    abbrev leaf : ℕ
    leaf = (get_or sides i no_side).leaf

    pub leaf_range : leaf + 5 < 2 * n
    leaf_range = (h.marked i w.side_in_range).in_range

    listed_holders : LaneHolders n (span e) ps i (way_up ps 41 leaf)
    listed_holders = lane_holders n e ps h.filled h.division h.all_pieces i leaf 41 w.side_in_range (h.marked i w.side_in_range) (omega arith)

    -- a piece that holds a lane along the side i is on the way up from the side's leaf piece
    holder_listed : (p u v : ℕ) → p + 5 < 2 * n → RunsAlong e i u v → HoldsLane n e (piece_at ps p) u v → Among p (way_up ps 41 leaf)
    holder_listed p u v l along k =
        let z = runs_one n e h.filled k.side i u v k.in_range w.side_in_range k.along along in
        listed_holders.all p k.triangle l (subst (λ s. Belongs (span e) s k.triangle) z k.belongs) k.held_there

    pub held_by : HeldBy n e ps a b (way_up ps 41 leaf)
    held_by = record {
      all = λ p l k. holder_listed p a b l (lane_runs e i back) k;
      only = λ p k.
          let mark = h.marked i w.side_in_range in (
            omega (arith, way_below ps 41 leaf p k, leaf_range),
            record {
              side = i;
              in_range = w.side_in_range;
              along = lane_runs e i back;
              triangle = mark.triangle;
              triangle_in_range = triangle_range n (span e) i mark.triangle w.side_in_range mark.belongs;
              belongs = mark.belongs;
              held_there = listed_holders.only p mark.triangle mark.belongs k;
            },
          );
      none_twice = way_once ps 41 leaf;
      at_most = listed_holders.at_most;
    }

    -- the other pieces have the lanes that they had
    pub off_way : AllShown K n e ps m sheets → OffWayShown K n e ps m' sheets 41 leaf
    off_way right q l away =
        shows_same_lanes K n e (piece_at ps q) m m' (sheet_of K sheets q)
        (lanes_stay K n e (piece_at ps q) i m m' same_but (λ u v along k. away (holder_listed q u v l along k)))
        (right q l)

    -- the promise of a change, from the sheets rewritten
    pub lane_changed : (sheets' : List M) (count : ℕ) → length sheets ≤ length sheets' → AllShown K n e ps m' sheets' → count ≡ length (way_up ps 41 leaf) → ((q : ℕ) → (Among q (way_up ps 41 leaf) → ⊥) → sheet_of K sheets' q ≡ sheet_of K sheets q) → LaneChanged K n m sides ps i back r (set area at r) sheets sheets' count
    lane_changed sheets' count l shown counted others = record {
      in_order = record { stands = other_sheets n m' sides ps (set area at r) sheets sheets' changed_stands l; all_lanes = omega (arith, lanes_long, length-set area at r); all_shown = shown };
      holders = (way_up ps 41 leaf, (held_by, counted));
      few = omega (arith, counted, held_by.at_most);
      others_kept = λ q un. others q (λ k. un (held_by.only q k).1);
    }
