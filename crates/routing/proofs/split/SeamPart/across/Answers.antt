use Rattle.quoting.specs.Seams.{is_first}
use Rattle.routing.specs.Seams.{is_low}
use Rattle.routing.proofs.Splitting.{across_is}
use Rattle.routing.proofs.split.SeamPart.across.Goals as goal

pub returns : goal.returns
returns g c plan h =
    across_is g.R.Rate.kind g.met.R.Rate.laws c.args.self plan h (is_low c.args.end) (is_first c.other.result) c.end-end.result
    c.part_in-first.result c.part_in-last.result c.part_rate.result c.part_rate-2.result c.join.result
    c.end-end.ensures c.other.ensures c.part_in-first.ensures c.part_in-last.ensures (c.part_rate.ensures plan) (c.part_rate-2.ensures plan) c.join.ensures
