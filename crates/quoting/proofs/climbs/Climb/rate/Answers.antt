use Rattle.std.proofs.Common.{map}
use Rattle.quoting.specs.Areas.{is_into}
use Rattle.quoting.specs.Places.{shown}
use Rattle.quoting.proofs.Places.{climb_own_at, climb_across_at, climb_nowhere_at}
use Rattle.quoting.proofs.climbs.Climb.rate.Goals as goal

pub returns-in-Some : goal.returns-in-Some
returns-in-Some g c w =
    let m = g.R.Rate.means in
    let s = c.args.self.now in
    climb_own_at g.R.Rate.kind (shown m s.line) (map m c.args.areas.sheets.now) s.step (is_into s.direction) (m s.ends.low) (m s.ends.high) c.args.t
    (m c.at.result) (m c.by_half.result) (m c.better_of_two.result) c.in-Some.k
    c.in-Some.ensures c.at.ensures (c.by_half.ensures w.low_small w.high_small w.own_within) c.better_of_two.ensures

pub returns-in-Some-position : goal.returns-in-Some-position
returns-in-Some-position g c w =
    let m = g.R.Rate.means in
    let s = c.args.self.now in
    climb_across_at g.R.Rate.kind (shown m s.line) (map m c.args.areas.sheets.now) s.step (is_into s.direction) (m s.ends.low) (m s.ends.high) c.args.t
    (m c.by_half-in-Some-position.result) c.in-Some-position.k c.in_default.ensures c.in-Some-position.ensures
    (c.by_half-in-Some-position.ensures w.low_small w.high_small w.across_within)

pub returns-in_default-position : goal.returns-in_default-position
returns-in_default-position g c w =
    let m = g.R.Rate.means in
    let s = c.args.self.now in
    climb_nowhere_at g.R.Rate.kind (shown m s.line) (map m c.args.areas.sheets.now) s.step (is_into s.direction) (m s.ends.low) (m s.ends.high) c.args.t
    (m c.none.result) c.in_default.ensures c.in_default-position.ensures c.none.ensures
