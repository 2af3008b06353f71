use Rattle.std.proofs.Common.{map}
use Rattle.slow.specs.Areas.{at, lane_map}
use Rattle.slow.specs.Rows.{Settles}
use Rattle.slow.proofs.rows.Lanes.settle.Given as goal

abbrev pub invariant-loop : goal.invariant-loop
invariant-loop g l =
    let K = g.R.Rate.kind in
    let m = g.R.Rate.means in
    Settles K (lane_map K l.self.n (map m l.self.rates.now)) l.self.n l.counter (at K (map m l.initial.row)) (at K (map m l.row))
