use Rattle.std.proofs.Common.{map}
use Rattle.slow.specs.Areas.{at, lane_map}
use Rattle.slow.specs.Rows.{Swept}
use Rattle.slow.proofs.rows.Lanes.sweep.Given as goal

abbrev pub invariant-loop-v : goal.invariant-loop-v
invariant-loop-v g l =
    let K = g.R.Rate.kind in
    let m = g.R.Rate.means in
    Swept K (lane_map K l.self.n (map m l.self.rates.now)) l.self.n l.v (at K (map m l.initial.row)) (at K (map m l.row)) l.changed
