use Rattle.std.proofs.Common.{map}
use Rattle.slow.specs.Areas.{entry, lane_map}
use Rattle.slow.specs.Rows.{RowsFound}
use Rattle.slow.proofs.rows.Lanes.find_rows.Given as goal

abbrev pub invariant-loop-u : goal.invariant-loop-u
invariant-loop-u g l =
    let K = g.R.Rate.kind in
    let m = g.R.Rate.means in
    RowsFound K (lane_map K l.self.n (map m l.self.rates.now)) l.self.n l.u (entry K l.self.n (map m l.table))
