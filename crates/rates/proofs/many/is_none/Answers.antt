use Rattle.std.proofs.Common.{ap, ◌∙◌}
use Rattle.rates.proofs.Choosing.{decides_none}
use Rattle.rates.proofs.many.is_none.Goals as goal

pub returns : goal.returns
returns g c =
    let K = g.R.Rate.kind in
    let a = g.R.Rate.means c.args.rate in
    decides_none K g.met.R.Rate.laws a c.better.result (c.better.ensures ∙ ap (K.better a) c.none.ensures)
