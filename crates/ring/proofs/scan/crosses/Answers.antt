use Rattle.ring.specs.Linked.{ends_of}
use Rattle.ring.proofs.Crossing.{decides_cross}
use Rattle.ring.proofs.scan.crosses.Goals as goal

pub returns : goal.returns
returns c =
    decides_cross (ends_of c.args.one) (ends_of c.args.other) c.low-low.result c.high-high.result c.low-low.ensures c.high-high.ensures
    c.lies_between.result c.lies_beyond-2.result c.lies_between-2.result c.lies_beyond.result
    c.lies_between.ensures c.lies_beyond.ensures c.lies_beyond-2.ensures c.lies_between-2.ensures
