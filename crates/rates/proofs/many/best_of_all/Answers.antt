use Rattle.std.proofs.lemmas.List.{take_all}
use Rattle.std.proofs.Common.{rules}
use Rattle.rates.proofs.Choosing.{best_more}
use Rattle.rates.proofs.many.best_of_all.Goals as goal

pub loop-rate-preserved : goal.loop-rate-preserved
loop-rate-preserved g c =
    let m = g.R.Rate.means in
    best_more g.R.Rate.kind g.met.R.Rate.laws m c.args.rates.now c.loop-rate.rate-index
    c.rate-item.result c.loop-rate.best (m c.better_of_two-best.result) c.loop-rate-test.true c.rate-item.is c.loop-rate.invariant c.better_of_two-best.ensures

pub returns : goal.returns
returns g c = search (rules, take_all)
