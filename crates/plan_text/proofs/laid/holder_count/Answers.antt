use Rattle.std.proofs.Common.{refl}
use Rattle.plan_text.proofs.Holders.{walked_length}
use Rattle.plan_text.proofs.laid.holder_count.Goals as goal

pub returns-clause-way : goal.returns-clause-way
returns-clause-way c =
    walked_length c.args.pieces.now c.args.side.leaf _ c.way_up.result c.way_up.new.out refl c.way_up.auto.out c.way_up.ensures.walked
