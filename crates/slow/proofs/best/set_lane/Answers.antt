use Rattle.std.proofs.Common.{set, sym, subst}
use Rattle.slow.specs.Areas.{LaneSet}
use Rattle.slow.proofs.Setting.{lane_set}
use Rattle.slow.proofs.best.set_lane.Goals as goal

pub returns : goal.returns
returns g c =
    let K = g.R.Rate.kind in
    let m = g.R.Rate.means in
    let n = c.args.n in
    let lanes = c.args.lanes.now in
    let from = c.args.ends.from in
    let to = c.args.ends.to in
    let rate = c.args.rate in
    let h = c.in_ok-place.ensures in
    subst (λ place. LaneSet K m n lanes (set lanes place rate) from to (m rate)) (sym h.1)
    (lane_set K m n lanes from to rate h.0 (c.lane_or_none.ensures.0 c.if-not-lane_or_none.false))
