use Rattle.quoting.proofs.Plans.{line_by_sheet, first_triangle}
use Rattle.quoting.proofs.lines.first_line.Goals as goal

pub returns-in-Some : goal.returns-in-Some
returns-in-Some g c n m h l begins =
    line_by_sheet g.R.Rate.kind g.met.R.Rate.laws g.R.Rate.means c.args.areas n m h c.args.p c.args.u c.in-Some.i c.piece-piece.result
    c.args.direction c.sheet_line.result l c.piece-piece.ensures c.in-Some.ensures c.sheet_line.ensures

pub returns-in-None : goal.returns-in-None
returns-in-None g c n m h l begins =
    first_triangle g.R.Rate.kind g.met.R.Rate.laws g.R.Rate.means c.args.areas n m h c.args.p c.piece-piece.result c.piece-piece.ensures l
    c.on-t.result c.on-t.ensures c.args.direction c.args.u c.triangle_line.result begins c.in-None.ensures c.triangle_line.ensures
