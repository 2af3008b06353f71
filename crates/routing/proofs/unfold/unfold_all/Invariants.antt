use Rattle.std.proofs.Common.{◌≡◌, ◌-◌, ◌<◌, ◌≤◌}
use Rattle.routing.specs.Splits.{RatedPlan}
use Rattle.routing.specs.Turns.{TripUnderWay}
use Rattle.routing.specs.Waiting.{parts_on, room_on}
use Rattle.routing.proofs.unfold.unfold_all.Given as goal

-- a trip that was under way before the first turn is still so, with as many turns fewer to go
abbrev pub invariant-loop : goal.invariant-loop
invariant-loop g l =
    (room_on l.list ≡ room_on l.initial.list)
    × (l.passed.places.ghost_name ≡ l.initial.passed.places.ghost_name)
    × ((plan : RatedPlan g.R.Rate.kind g.R.Rate.means l.areas) (r : g.R.Rate.Member) → l.from < plan.n → 84 ≤ room_on l.initial.list
    → TripUnderWay plan l.from l.to r l.end (parts_on l.initial.list) l.initial.passed
    → TripUnderWay plan l.from l.to r (l.end - l.counter) (parts_on l.list) l.passed)
