use Rattle.sheets.proofs.Reading.{read_past, read_there}
use Rattle.sheets.proofs.cells.rate_at.Goals as goal

pub returns-in-Some : goal.returns-in-Some
returns-in-Some g c =
    let v = c.in-Some.rate.now in
    let at = c.in-Some.ensures.lookup.3 in
    read_there g.R.Rate.kind g.met.R.Rate.laws g.R.Rate.means c.args.area.now c.args.place v at.0 (at.1 v)

pub returns-in-None : goal.returns-in-None
returns-in-None g c =
    read_past g.R.Rate.kind g.met.R.Rate.laws g.R.Rate.means c.args.area.now c.args.place c.none.result c.in-None.ensures.lookup.3 c.none.ensures
