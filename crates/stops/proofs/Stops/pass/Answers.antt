use Rattle.stops.proofs.Finding.{passed_full, passed_on}
use Rattle.stops.proofs.Stops.pass.Goals as goal

pub returns-then-k-self-clause-passed : goal.returns-then-k-self-clause-passed
returns-then-k-self-clause-passed c =
    let s = c.args.self.now in
    passed_on s.places.now s.count c.args.terminal s.within c.place_of-k.result c.place_of-k.ensures c.if-k-self.true

pub returns-else-k-self-clause-passed : goal.returns-else-k-self-clause-passed
returns-else-k-self-clause-passed c =
    let s = c.args.self.now in
    passed_full s.places.now s.count c.args.terminal s.within c.place_of-k.result c.place_of-k.ensures c.if-k-self.false
