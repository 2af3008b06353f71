use Rattle.quoting.proofs.Plans.{known_up}
use Rattle.quoting.proofs.passes.known_above.Goals as goal

pub returns : goal.returns
returns g c n m p u v h z l is tu tv w =
    known_up g.R.Rate.kind g.met.R.Rate.laws g.R.Rate.means c.args.areas n m h p u v c.args.step c.args.known
    c.climbed.result c.climbed-2.result c.by_seam-round.result c.better_of_two.result
    z l is tu tv w c.by_seam-round.ensures c.climbed.ensures c.climbed-2.ensures c.better_of_two.ensures
