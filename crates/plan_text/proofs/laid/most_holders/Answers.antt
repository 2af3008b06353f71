use Rattle.plan_text.proofs.Holders.{most_holders_is}
use Rattle.plan_text.proofs.laid.most_holders.Goals as goal

pub returns-clause-greatest : goal.returns-clause-greatest
returns-clause-greatest c =
    let way = c.longest_way in
    most_holders_is c.args.sides.now c.args.pieces.now way.result way.ensures.at_most way.ensures.none_longer way.ensures.reached
