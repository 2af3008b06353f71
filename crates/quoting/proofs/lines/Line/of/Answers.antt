use Rattle.quoting.proofs.Places.{eight}
use Rattle.quoting.proofs.lines.Line.of.Given as given
use Rattle.quoting.proofs.lines.Line.of.Goals as goal

pub returns-clause-places : goal.returns-clause-places
returns-clause-places g c =
    eight g.R.Rate.means g.R.Rate.kind.none (λ k r. given.F-post g c.args.rate k r)
    c.rate.ensures c.rate-2.ensures c.rate-3.ensures c.rate-4.ensures c.rate-5.ensures c.rate-6.ensures c.rate-7.ensures c.rate-8.ensures
