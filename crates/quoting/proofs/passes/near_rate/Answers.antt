use Rattle.quoting.proofs.Plans.{cell_best, near_triangle}
use Rattle.quoting.proofs.passes.near_rate.Goals as goal

pub returns-in-Some : goal.returns-in-Some
returns-in-Some g c n m h l ends =
    cell_best g.R.Rate.kind g.met.R.Rate.laws g.R.Rate.means c.args.areas n m h c.args.p c.args.from c.args.to c.in-Some.i c.in-Some.j c.piece-piece.result c.cell.result l
    c.piece-piece.ensures c.in-Some.ensures.0 c.in-Some.ensures.1 c.cell.ensures

pub returns-in-None : goal.returns-in-None
returns-in-None g c n m h l ends =
    near_triangle g.R.Rate.kind g.met.R.Rate.laws g.R.Rate.means c.args.areas n m h c.args.p c.piece-piece.result c.piece-piece.ensures l
    c.on-t.result c.on-t.ensures c.args.from c.args.to c.best.result ends c.in-None.ensures c.best.ensures
