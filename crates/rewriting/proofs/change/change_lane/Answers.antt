use Rattle.std.specs.Prelude.{IsOkAnd}
use Rattle.std.proofs.Common.{◌≡◌, ℕ, false, length, set, refl, ap, subst, arith}
use Rattle.std.proofs.lemmas.Bool.{both_ways}
use Rattle.trips.specs.Trips.{changed}
use Rattle.ring.specs.declared.Side.{Side}
use Rattle.pieces.specs.Sides.{ends_of}
use Rattle.piece_rates.specs.Changes.{lane_from, lane_to}
use Rattle.rewriting.specs.Ways.{Room, WayRewritten, leaf_of}
use Rattle.rewriting.proofs.Steps.{ok_and, no_err}
use Rattle.rewriting.proofs.Ways.{room_there, change_shown}
use Rattle.rewriting.proofs.change.change_lane.Given as given
use Rattle.rewriting.proofs.change.change_lane.Goals as goal

none : (g : given.Over) (c : goal.After-from_residual g) → Room c.args.records.sides.now (length c.args.lanes.now) (length c.args.sheets.now) (length c.args.work.now) c.args.lane.side → ⊥
none g c room = both_ways false refl (c.in_err-check_lane.ensures.1 room)

pub returns-in_err-check_lane-clause-rewritten : goal.returns-in_err-check_lane-clause-rewritten
returns-in_err-check_lane-clause-rewritten g c room = absurd (none g c room)

pub returns-in_err-check_lane-clause-changed : goal.returns-in_err-check_lane-clause-changed
returns-in_err-check_lane-clause-changed g c n m wide o may =
    absurd (none g c (room_there g.R.Rate.kind g.R.Rate.means n m c.args.records.sides.now c.args.records.pieces.now c.args.lanes.now c.args.sheets.now
    c.args.lane.side c.args.lane.back (g.R.Rate.means c.args.rate) (length c.args.work.now) o.stands o.all_lanes may wide))

pub returns : goal.returns
returns g c =
    let K = g.R.Rate.kind in
    let m = g.R.Rate.means in
    let sides = c.args.records.sides.now in
    let ps = c.args.records.pieces.now in
    let sheets = c.args.sheets.now in
    let work = c.args.work.now in
    let sheets' = c.rewrite_up.new.sheets in
    let work' = c.rewrite_up.new.work in
    let i = c.args.lane.side in
    let back = c.args.lane.back in
    let leaf = c.side-leaf.result.leaf in
    let room = c.in_ok-check_lane.ensures.0 refl in
    let leaf_is : leaf ≡ leaf_of sides i = ap (λ (s : Side). s.leaf) c.side-leaf.ensures in
    let way : IsOkAnd c.rewrite_up.result (λ count. WayRewritten ps leaf sheets work count sheets' work') =
    c.rewrite_up.ensures.rewritten (record { sheet_there = omega (arith, room.sheet_there, leaf_is); work_there = room.work_there }) in
    record {
      rewritten = λ _. ok_and c.rewrite_up.result _ _ (λ count w. record {
        lane = ap (λ (k : ℕ). set c.args.lanes.now k c.args.rate) c.place.ensures;
        way = subst (λ (l : ℕ). WayRewritten ps l sheets work count sheets' work') leaf_is w;
      }) way;
      refused = λ un. absurd (un room);
      untouched = no_err c.rewrite_up.result _ _ way;
      changed = λ n lanes wide o may. ok_and c.rewrite_up.result _ _ (λ count w.
          change_shown K m n lanes sides ps c.args.lanes.now sheets work sheets' work'
          i back c.args.rate count o may c.rewrite_up.auto.sheets leaf c.place.result leaf_is c.place.ensures w
          (c.rewrite_up.ensures.shown n (changed K lanes (lane_from (ends_of sides) i back) (lane_to (ends_of sides) i back) (m c.args.rate)) wide)) way;
    }
