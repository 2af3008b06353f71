use Rattle.std.proofs.Common.{map}
use Rattle.quoting.specs.Areas.{is_into}
use Rattle.quoting.specs.Places.{shown, cell_at}
use Rattle.quoting.proofs.Places.{line_of}
use Rattle.quoting.proofs.lines.sheet_line.Goals as goal

pub returns : goal.returns
returns g c =
    let K = g.R.Rate.kind in
    let m = g.R.Rate.means in
    line_of K m _ (shown m c.of.result) (cell_at K (map m c.args.areas.sheets.now) c.args.p (is_into c.args.direction) c.args.i)
    c.of.ensures.short c.of.ensures.places (λ k r is. is)
