use Rattle.std.proofs.Common.{◌≡◌, ◌+◌, ◌-◌, ◌*◌, ◌<◌, ◌≤◌, map, length, take, drop, arith, rules}
use Rattle.std.proofs.lemmas.List.{length-take, length-drop}
use Rattle.slow.specs.Areas.{lane_map}
use Rattle.slow.proofs.Places.{rows_before}
use Rattle.slow.proofs.Filling.{rows_more}
use Rattle.slow.proofs.rows.Lanes.find_rows.Goals as goal

pub loop-u-init : goal.loop-u-init
loop-u-init g c u l = absurd (omega arith)

pub offset_bounds-table-n : goal.offset_bounds-table-n
offset_bounds-table-n g c =
    let h : c.args.self.now.n * c.loop-u.u < length c.args.table.now =
    omega (arith, rows_before c.args.self.now.n c.loop-u.u c.args.self.now.n c.loop-u-test.true, c.requires) in
    search rules

pub slice_bounds-find_row-end : goal.slice_bounds-find_row-end
slice_bounds-find_row-end g c =
    let h : c.args.self.now.n * c.loop-u.u + c.args.self.now.n ≤ length c.loop-u.table =
    omega (arith, rows_before c.args.self.now.n c.loop-u.u c.args.self.now.n c.loop-u-test.true, c.requires) in
    h

pub loop-u-preserved : goal.loop-u-preserved
loop-u-preserved g c =
    let n = c.args.self.now.n in
    let u = c.loop-u.u in
    let fits : n * u + n ≤ length c.loop-u.table = omega (arith, rows_before n u n c.loop-u-test.true, c.requires) in
    let kept : length c.find_row.new.row ≡ length (take (n * u + n - n * u) (drop (n * u) c.loop-u.table)) = c.find_row.auto.row in
    let long : length c.find_row.new.row ≡ n =
    omega (arith, kept, length-take (n * u + n - n * u) (drop (n * u) c.loop-u.table), length-drop (n * u) c.loop-u.table) in
    rows_more g.R.Rate.kind g.R.Rate.means (lane_map g.R.Rate.kind n (map g.R.Rate.means c.args.self.now.rates.now)) n u (n * u + n - n * u)
    c.loop-u.table c.find_row.new.row fits long c.loop-u.invariant c.find_row.ensures
