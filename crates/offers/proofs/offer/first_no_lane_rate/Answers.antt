use Rattle.std.proofs.Common.{rules}
use Rattle.std.proofs.lemmas.Iterator.{IsFirst-from_position, YieldsList-from_slice}
use borrow.Author.Tests.{tests}
use Rattle.offers.proofs.Pricing.{first_found, IsLane, IsNoLane}
use Rattle.offers.proofs.offer.first_no_lane_rate.Goals as goal

pub returns : goal.returns
returns g c =
    let K = g.R.Rate.kind in
    let X = g.met.R.Rate.laws in
    let lanes = c.args.lanes.now in
    first_found K X g.R.Rate.means lanes c.position.result
    (IsFirst-from_position _ _ _ (IsNoLane K X g.R.Rate.means) (IsLane K X g.R.Rate.means) c.position.ensures.ran (YieldsList-from_slice lanes cc) (λ y q k. search (rules, tests)) (λ y q k. search (rules, tests)))
