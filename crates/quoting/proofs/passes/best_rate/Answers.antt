use Rattle.std.proofs.Common.{arith}
use Rattle.quoting.proofs.Plans.{whole_best, whole_touched}
use Rattle.quoting.proofs.passes.best_rate.Goals as goal

pub returns : goal.returns
returns g c n m h lu lv =
    let K = g.R.Rate.kind in
    let X = g.met.R.Rate.laws in
    let f = g.R.Rate.means in
    whole_best K X f c.args.areas n m h c.args.from c.args.to c.best_within.result
    (c.best_within.ensures n m h (omega (arith, h.stands.filled.least))
    (whole_touched K X f c.args.areas n m h c.args.from lu)
    (whole_touched K X f c.args.areas n m h c.args.to lv))
