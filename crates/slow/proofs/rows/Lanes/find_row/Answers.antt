use Rattle.std.proofs.Common.{◌∙◌, arith}
use Rattle.slow.proofs.Places.{set_here, set_others}
use Rattle.slow.proofs.rows.Lanes.find_row.Goals as goal

pub returns : goal.returns
returns g c =
    let K = g.R.Rate.kind in
    let m = g.R.Rate.means in
    let row = c.clear.new.row in
    let u = c.args.u in
    let still = c.still.result in
    c.settle.ensures u c.requires.below (record {
      staying = set_here K m row u still (omega arith) ∙ c.still.ensures;
      elsewhere = λ w l z. set_others K m row u still w z ∙ c.clear.ensures w;
    })
