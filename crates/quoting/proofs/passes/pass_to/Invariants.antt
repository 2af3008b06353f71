use Rattle.std.proofs.Common.{ℕ}
use Rattle.trips.specs.Trips.{LaneMap}
use Rattle.quoting.specs.Areas.{PlanInOrder, ReachesFrom}
use Rattle.quoting.specs.Climbs.{KnownAt}
use Rattle.quoting.proofs.Plans.{Rises}
use Rattle.quoting.proofs.passes.pass_to.Given as goal

abbrev pub invariant-loop : goal.invariant-loop
invariant-loop g l =
    let K = g.R.Rate.kind in
    let X = g.met.R.Rate.laws in
    let f = g.R.Rate.means in
    (n : ℕ) (m : LaneMap g.R.Rate.Member) (u v : ℕ) (h : PlanInOrder K f l.areas n m)
    → ReachesFrom l.areas n l.stop u l.from
    → ReachesFrom l.areas n l.stop v l.from
    → KnownAt K f l.areas n m l.from u v l.initial.reached
    → Rises K X f l.areas n m h l.stop l.from u l.p l.counter
    × Rises K X f l.areas n m h l.stop l.from v l.p l.counter
    × KnownAt K f l.areas n m l.p u v l.reached
