use Rattle.std.proofs.Common.{ℕ, ◌+◌, ◌-◌, ◌*◌, ◌<◌, map}
use Rattle.trips.specs.Trips.{LaneMap}
use Rattle.pieces.specs.Sides.{ends_of}
use Rattle.piece_rates.specs.Changes.{PlanStands, OffWayShown}
use Rattle.rewriting.specs.Ways.{UnderWay}
use Rattle.rewriting.proofs.up.rewrite_up.Given as goal

-- Every sheet is right but those on what is left of the way up.
abbrev pub invariant-loop-k : goal.invariant-loop-k
invariant-loop-k g l =
    let K = g.R.Rate.kind in
    let m = g.R.Rate.means in
    let e = ends_of l.records.sides.now in
    UnderWay l.records.pieces.now l.from l.k l.p l.initial.sheets l.initial.work l.sheets l.work
    × ((n : ℕ) (lanes : LaneMap g.R.Rate.Member) → PlanStands K n lanes l.records.sides.now l.records.pieces.now (map m l.lanes) (map m l.initial.sheets) → l.from + 5 < 2 * n
    → OffWayShown K n e l.records.pieces.now lanes (map m l.initial.sheets) 41 l.from → OffWayShown K n e l.records.pieces.now lanes (map m l.sheets) (41 - l.k) l.p)
