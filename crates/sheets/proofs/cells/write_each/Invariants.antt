use Rattle.std.proofs.Common.{ℕ, ◌<◌, get_or}
use Rattle.sheets.proofs.cells.write_each.Given as goal

abbrev pub invariant-loop-k : goal.invariant-loop-k
invariant-loop-k g l = (k : ℕ) → k < l.k → (d : g.row.R.Denot) → goal.F-post g l.f k (get_or l.area k d)
