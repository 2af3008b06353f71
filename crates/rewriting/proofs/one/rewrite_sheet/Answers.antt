use Rattle.std.proofs.Common.{map}
use Rattle.rewriting.proofs.Sheets.{copied_shows}
use Rattle.rewriting.proofs.one.rewrite_sheet.Goals as goal

pub returns : goal.returns
returns g c =
    let K = g.R.Rate.kind in
    let m = g.R.Rate.means in
    record {
      only = c.put_sheet.ensures.only;
      kept = c.sheet_into.ensures.kept;
      shown = λ n lanes h parts r.
          copied_shows K m n lanes c.args.records.sides.now c.args.records.pieces.now (map m c.args.lanes.now) c.args.sheets.now h c.args.p r
          c.sheet_into.new.sheet c.put_sheet.new.sheets c.put_sheet.ensures.there (c.sheet_into.ensures.shows n lanes h parts r c.requires.work_there);
    }
