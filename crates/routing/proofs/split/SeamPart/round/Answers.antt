use Rattle.quoting.specs.Seams.{is_first}
use Rattle.routing.specs.Seams.{is_low}
use Rattle.routing.proofs.Splitting.{round_is}
use Rattle.routing.proofs.split.SeamPart.round.Goals as goal

pub returns : goal.returns
returns g c plan h =
    round_is g.R.Rate.kind g.met.R.Rate.laws c.args.self plan h (is_low c.args.end) (is_low c.other.result) (is_first c.other-2.result) c.end-near.result c.end-far.result
    c.part_in-out.result c.part_in-across.result c.part_in-back.result c.part_rate.result c.part_rate-2.result c.part_rate-3.result c.join-rate.result c.join.result
    c.end-near.ensures c.other.ensures c.end-far.ensures c.other-2.ensures c.part_in-out.ensures c.part_in-across.ensures c.part_in-back.ensures
    (c.part_rate.ensures plan) (c.part_rate-2.ensures plan) (c.part_rate-3.ensures plan) c.join-rate.ensures c.join.ensures
