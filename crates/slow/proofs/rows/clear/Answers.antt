use Rattle.std.proofs.Common.{rules}
use Rattle.slow.proofs.Clearing.{filled_with_none}
use Rattle.slow.proofs.rows.clear.Goals as goal

pub returns : goal.returns
returns g c w =
    filled_with_none g.R.Rate.kind g.R.Rate.means _ (λ f x q s. search rules) c.fill_with.new.self _ _ c.fill_with.ensures.ran.1 w
