use Rattle.routing.proofs.Splitting.{apart_is}
use Rattle.routing.proofs.split.SeamPart.split_across.Goals as goal

pub returns : goal.returns
returns g c plan h =
    apart_is g.R.Rate.kind c.args.self plan c.across.result c.across-2.result c.or_better.result (c.across.ensures plan h) (c.across-2.ensures plan h) c.or_better.ensures
