use Rattle.routing.proofs.Splitting.{together_is}
use Rattle.routing.proofs.split.SeamPart.split_together.Goals as goal

pub returns : goal.returns
returns g c plan h =
    together_is g.R.Rate.kind c.args.self plan c.round.result c.round-2.result c.or_better-round.result c.within.result c.or_better.result
    (c.round.ensures plan h) (c.round-2.ensures plan h) (c.within.ensures plan h) c.or_better-round.ensures c.or_better.ensures
