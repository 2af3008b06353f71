use Rattle.routing.proofs.Splitting.{within_is}
use Rattle.routing.proofs.split.SeamPart.within.Goals as goal

pub returns : goal.returns
returns g c plan h =
    within_is g.R.Rate.kind g.met.R.Rate.laws c.args.self plan h c.part_in-only.result c.part_rate.result c.part_in-only.ensures (c.part_rate.ensures plan)
