use Rattle.std.proofs.Common.{arith}
use Rattle.sheets.proofs.Reading.{each_next}
use Rattle.sheets.proofs.cells.write_each.Given as given
use Rattle.sheets.proofs.cells.write_each.Goals as goal

pub loop-k-preserved : goal.loop-k-preserved
loop-k-preserved g c =
    each_next (given.F-post g c.args.f) c.loop-k.area c.loop-k.k c.f.result (omega arith) c.f.ensures c.loop-k.invariant

pub returns : goal.returns
returns g c = record { there = λ k d l. c.loop-k.invariant k (omega arith) d }
