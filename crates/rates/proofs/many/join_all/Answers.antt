use Rattle.std.proofs.Common.{map, subst}
use Rattle.std.proofs.lemmas.List.{take_all}
use Rattle.rates.proofs.Choosing.{Joined, joined_more}
use Rattle.rates.proofs.many.join_all.Goals as goal

pub loop-rate-preserved : goal.loop-rate-preserved
loop-rate-preserved g c =
    joined_more g.R.Rate.kind g.met.R.Rate.laws g.R.Rate.means c.args.rates.now c.loop-rate.rate-index
    c.rate-item.result c.loop-rate.all c.join-all.result c.loop-rate-test.true c.rate-item.is c.loop-rate.invariant c.join-all.ensures

pub returns : goal.returns
returns g c =
    let m = g.R.Rate.means in
    subst (λ list. Joined g.R.Rate.kind g.met.R.Rate.laws (map m list) (m c.loop-rate.all))
    (take_all c.loop-rate.rate-index c.args.rates.now c.loop-rate-test.false) c.loop-rate.invariant
