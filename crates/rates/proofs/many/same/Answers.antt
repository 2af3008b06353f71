use Rattle.rates.proofs.Choosing.{decides_same}
use Rattle.rates.proofs.many.same.Goals as goal

pub returns : goal.returns
returns g c =
    let m = g.R.Rate.means in
    decides_same g.R.Rate.kind g.met.R.Rate.laws (m c.args.one) (m c.args.other)
    c.better.result c.better-2.result c.better.ensures c.better-2.ensures
