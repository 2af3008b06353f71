use Rattle.stops.proofs.Finding.{found}
use Rattle.stops.proofs.Stops.place_of.Goals as goal

pub returns : goal.returns
returns c =
    let s = c.args.self.now in
    found s.places.now s.count c.args.terminal s.within c.unwrap_or.result c.place_among.result c.place_among.ensures c.unwrap_or.ensures
