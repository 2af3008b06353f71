use Rattle.std.proofs.Common.{map, subst}
use Rattle.slow.specs.Areas.{entry, lane_map}
use Rattle.slow.specs.Rows.{RowsFound}
use Rattle.slow.proofs.Answering.{settled}
use Rattle.slow.proofs.best.best_rates.Goals as goal

pub returns : goal.returns
returns g c =
    let K = g.R.Rate.kind in
    let m = g.R.Rate.means in
    let h = c.in_ok-lanes.ensures in
    let held = c.in_ok-lanes.lanes in
    let table = map m c.find_rows.new.table in (
      h.checked.1,
      settled K g.met.R.Rate.laws c.args.n (map m c.args.lanes.now) table h.checked.0
          (subst (λ n. RowsFound K (lane_map K n (map m c.args.lanes.now)) n n (entry K n table)) h.ok.0
          (subst (λ rates. RowsFound K (lane_map K held.n (map m rates)) held.n held.n (entry K held.n table)) h.ok.1 c.find_rows.ensures))
          c.some_loop_better.result c.some_loop_better.ensures,
    )
