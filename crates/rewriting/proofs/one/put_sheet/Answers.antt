use Rattle.std.proofs.Common.{◌+◌, ◌-◌, ◌*◌, drop, arith, length-drop, length-take}
use Rattle.rewriting.proofs.Steps.{put_there, put_only}
use Rattle.rewriting.proofs.one.put_sheet.Goals as goal

pub copy_from_slice-requires : goal.copy_from_slice-requires
copy_from_slice-requires g c =
    let a = 64 * c.args.p in
    omega (arith, length-take (a + 64 - a) (drop a c.args.sheets.now), length-drop a c.args.sheets.now, length-take 64 c.args.work.now, c.requires.full_sheet, c.requires.room)

pub returns : goal.returns
returns g c =
    let p = c.args.p in
    let sheets = c.args.sheets.now in
    let work = c.args.work.now in
    let sheet = c.copy_from_slice.new.self in
    record {
      there = put_there p sheets sheet work c.requires.room c.requires.full_sheet c.copy_from_slice.ensures.after;
      only = put_only p sheets sheet work c.requires.room c.requires.full_sheet c.copy_from_slice.ensures.after;
    }
