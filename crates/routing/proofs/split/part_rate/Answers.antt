use Rattle.routing.specs.Waiting.{part_of}
use Rattle.routing.proofs.Splitting.{part_rate_is}
use Rattle.routing.proofs.split.part_rate.Goals as goal

pub returns : goal.returns
returns g c plan t =
    part_rate_is g.R.Rate.kind g.met.R.Rate.laws plan (part_of c.args.part) (g.R.Rate.means c.best_within.result) t
    (c.best_within.ensures plan.n plan.lanes plan.rated.in_order t.in_range t.from_touches t.to_touches)
