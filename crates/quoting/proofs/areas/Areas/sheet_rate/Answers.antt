use Rattle.std.proofs.Common.{map, ◌∙◌, ◌+◌, ◌*◌, ◌≤◌, arith}
use Rattle.quoting.proofs.Places.{cell_there, cell_past}
use Rattle.quoting.proofs.areas.Areas.sheet_rate.Goals as goal
use Rattle.quoting.proofs.areas.Areas.sheet_rate.Goals.{then-i-ge-ROW-via-then-i-ge-ROW, then-i-ge-ROW-via-else-i-ge-ROW+then-j-i}

pub returns-then-i-ge-ROW : goal.returns-then-i-ge-ROW
returns-then-i-ge-ROW g c =
    let past : 64 ≤ 8 * c.args.i + c.args.j = elim c.then-i-ge-ROW.branch [ then-i-ge-ROW-via-then-i-ge-ROW w ↦ omega arith | then-i-ge-ROW-via-else-i-ge-ROW+then-j-i w ↦ omega arith ] in
    c.none.ensures ∙ cell_past g.R.Rate.kind (map g.R.Rate.means c.args.self.sheets.now) c.args.p c.args.i c.args.j past

pub returns : goal.returns
returns g c =
    c.rate_at.ensures ∙ cell_there g.R.Rate.kind (map g.R.Rate.means c.args.self.sheets.now) c.args.p c.args.i c.args.j (omega arith)
