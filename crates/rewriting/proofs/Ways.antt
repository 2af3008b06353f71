-- The sheets above a rewritten one, and a whole change, on plain values.
-- Assumes nothing.
use Rattle.std.proofs.Common.{◌≡◌, ℕ, suc, ◌+◌, ◌-◌, ◌*◌, ◌<◌, ◌≤◌, Bool, true, false, List, map, length, set, sym, subst, arith}
use Rattle.std.proofs.lemmas.List.{length-map, map-set}
use Rattle.rates.specs.Kinds.{Kind}
use Rattle.trips.specs.Trips.{LaneMap, changed}
use Rattle.ring.specs.declared.Side.{Side}
use Rattle.records.specs.declared.Piece.{Piece}
use Rattle.pieces.specs.Sides.{ends_of}
use Rattle.pieces.specs.Holding.{piece_at}
use Rattle.pieces.specs.Holders.{climbs}
use Rattle.piece_rates.specs.Changes.{lane_from, lane_to, lane_place, PlanStands, InOrder, PartsRight, PieceShown, OffWayShown, AllShown, OnlySheet, MayChange, LaneChanged}
use Rattle.piece_rates.proofs.Ways.{parts_right, next_shown, all_shown, same_mapped}
use Rattle.piece_rates.proofs.ChangedLane.{other_sheets, changed_stands, leaf_range, off_way, lane_changed}
use Rattle.rewriting.specs.Ways.{WayRewritten, Room, leaf_of}

module _ {M : Type 0} (K : Kind M) {V : Type 0} (means : V → M) where
  -- one step of the way up from `from`: the sheet of p is rewritten
  module _ (n : ℕ) (m : LaneMap M) (sides : List Side) (ps : List Piece) (area : List M) (entry before after : List V) (from p k : ℕ) (h : PlanStands K n m sides ps area (map means entry)) (long : length before ≡ length entry) (r : from + 5 < 2 * n) (low : p ≤ from) (few : k < 41) (off : OffWayShown K n (ends_of sides) ps m (map means before) (41 - k) p) (only : OnlySheet p before after) (writes : PlanStands K n m sides ps area (map means before) → PartsRight K n (ends_of sides) ps m (map means before) p → p + 5 < 2 * n → PieceShown K n (ends_of sides) ps m (map means after) p) where
    left_to_do : OffWayShown K n (ends_of sides) ps m (map means before) (suc (41 - (k + 1))) p
    left_to_do = let z : 41 - k ≡ suc (41 - (k + 1)) = omega arith in subst (λ f. OffWayShown K n (ends_of sides) ps m (map means before) f p) z off

    here_shown : PieceShown K n (ends_of sides) ps m (map means after) p
    here_shown =
        writes (other_sheets K n m sides ps area (map means entry) (map means before) h (omega (arith, long, length-map entry means, length-map before means)))
        (parts_right K n (ends_of sides) ps m (map means before) (41 - k) p h.division (omega arith) off) (omega arith)

    pub above_left : (u : ℕ) → climbs ps p ≡ true → u ≡ (piece_at ps p).parent → OffWayShown K n (ends_of sides) ps m (map means after) (41 - (k + 1)) u
    above_left u = next_shown K means n (ends_of sides) ps m before after p (41 - (k + 1)) left_to_do only here_shown u

    pub none_left : climbs ps p ≡ false → AllShown K n (ends_of sides) ps m (map means after)
    none_left = all_shown K means n (ends_of sides) ps m before after p (41 - (k + 1)) left_to_do only here_shown

  -- a plan that stands has room for a change
  pub room_there : (n : ℕ) (m : LaneMap M) (sides : List Side) (ps : List Piece) (lanes sheets : List V) (i : ℕ) (back : Bool) (r : M) (work : ℕ) → PlanStands K n m sides ps (map means lanes) (map means sheets) → 4 * n ≤ length (map means lanes) + 6 → MayChange K n (ends_of sides) m i back r → 64 ≤ work → Room sides (length lanes) (length sheets) work i
  room_there n m sides ps lanes sheets i back r work h lanes_long w wide = record {
    side_there = omega (arith, w.side_in_range, h.all_sides);
    lanes_there = omega (arith, w.side_in_range, lanes_long, length-map lanes means);
    sheet_there = omega (arith, leaf_range K n m sides ps (map means lanes) (map means sheets) h lanes_long i back r w, h.all_sheets, length-map sheets means);
    work_there = wide;
  }

  module _ (n : ℕ) (m : LaneMap M) (sides : List Side) (ps : List Piece) (lanes sheets work sheets' work' : List V) (i : ℕ) (back : Bool) (rate : V) (count : ℕ) (o : InOrder K n m sides ps (map means lanes) (map means sheets)) (w : MayChange K n (ends_of sides) m i back (means rate)) (long : length sheets' ≡ length sheets) where
    abbrev m' : LaneMap M
    m' = changed K m (lane_from (ends_of sides) i back) (lane_to (ends_of sides) i back) (means rate)

    -- what the rewriting from a leaf promises, with the lane at a place
    abbrev Shown : ℕ → ℕ → Type 0
    Shown leaf place =
        PlanStands K n m' sides ps (map means (set lanes place rate)) (map means sheets) → leaf + 5 < 2 * n
        → OffWayShown K n (ends_of sides) ps m' (map means sheets) 41 leaf → AllShown K n (ends_of sides) ps m' (map means sheets')

    change_there : WayRewritten ps (leaf_of sides i) sheets work count sheets' work' → Shown (leaf_of sides i) (lane_place i back) → LaneChanged K n m sides ps i back (means rate) (map means (set lanes (lane_place i back) rate)) (map means sheets) (map means sheets') count
    change_there way shown =
        let area = map means lanes in
        let sh = map means sheets in
        let z = map-set means lanes (lane_place i back) rate in
        subst (λ a. LaneChanged K n m sides ps i back (means rate) a sh (map means sheets') count) (sym z)
        (lane_changed K n m sides ps area sh o.stands o.all_lanes i back (means rate) w (map means sheets') count
        (omega (arith, long, length-map sheets means, length-map sheets' means))
        (shown (subst (λ a. PlanStands K n m' sides ps a sh) (sym z) (changed_stands K n m sides ps area sh o.stands o.all_lanes i back (means rate) w))
        (leaf_range K n m sides ps area sh o.stands o.all_lanes i back (means rate) w) (off_way K n m sides ps area sh o.stands o.all_lanes i back (means rate) w o.all_shown))
        way.counted (λ q away. same_mapped K means q sheets sheets' (way.others q away)))

    pub change_shown : (leaf place : ℕ) → leaf ≡ leaf_of sides i → place ≡ lane_place i back → WayRewritten ps leaf sheets work count sheets' work' → Shown leaf place → LaneChanged K n m sides ps i back (means rate) (map means (set lanes place rate)) (map means sheets) (map means sheets') count
    change_shown leaf place p q =
        subst (λ (l : ℕ). WayRewritten ps l sheets work count sheets' work' → Shown l place → LaneChanged K n m sides ps i back (means rate) (map means (set lanes place rate)) (map means sheets) (map means sheets') count) (sym p)
        (subst (λ (k : ℕ). WayRewritten ps (leaf_of sides i) sheets work count sheets' work' → Shown (leaf_of sides i) k → LaneChanged K n m sides ps i back (means rate) (map means (set lanes k rate)) (map means sheets) (map means sheets') count) (sym q) change_there)
