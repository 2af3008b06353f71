use Rattle.std.proofs.Common.{true, false, rules, refl, arith}
use borrow.Author.Tests.{tests}
use Rattle.std.proofs.lemmas.Iterator.{YieldsList-from_range, cases_from_any}
use Rattle.slow.proofs.Filling.{OwnTest, loops_tested}
use Rattle.slow.proofs.best.some_loop_better.Goals as goal

pub returns : goal.returns
returns g c =
    let K = g.R.Rate.kind in
    let m = g.R.Rate.means in
    let n = c.args.n in
    let table = c.args.table.now in
    loops_tested K m n table c.any.result c.requires.square
    (cases_from_any _ _ c.any.result (OwnTest K m n table true) (OwnTest K m n table false) c.any.ensures.ran (YieldsList-from_range 0 n n refl (omega arith))
    (λ u q k. search (rules, tests))
    (λ u q k. search (rules, tests)))
