use Rattle.std.proofs.Common.{ℕ}
use Rattle.trips.specs.Trips.{LaneMap}
use Rattle.quoting.specs.Areas.{LineAt, PlanInOrder, ReachesFrom}
use Rattle.quoting.proofs.Plans.{Rises}
use Rattle.quoting.proofs.climbs.climb_to.Given as goal

abbrev pub invariant-loop : goal.invariant-loop
invariant-loop g l =
    let K = g.R.Rate.kind in
    let f = g.R.Rate.means in
    (n : ℕ) (m : LaneMap g.R.Rate.Member) (u : ℕ) (h : PlanInOrder K f l.areas n m)
    → ReachesFrom l.areas n l.stop u l.from
    → LineAt K f l.areas n m l.from l.direction u l.initial.reached
    → Rises K g.met.R.Rate.laws f l.areas n m h l.stop l.from u l.p l.counter
    × LineAt K f l.areas n m l.p l.direction u l.reached
