use Rattle.records.specs.Few.{listed}
use Rattle.quoting.specs.Areas.{is_into}
use Rattle.quoting.specs.Places.{shown, triangle_place_at}
use Rattle.quoting.proofs.Places.{line_of}
use Rattle.quoting.proofs.lines.triangle_line.Goals as goal

pub returns : goal.returns
returns g c w =
    let K = g.R.Rate.kind in
    let m = g.R.Rate.means in
    line_of K m _ (shown m c.of.result) (triangle_place_at K m c.args.t (listed c.args.edges) (is_into c.args.direction) c.args.u)
    c.of.ensures.short c.of.ensures.places (λ k r is. is w)
