use Rattle.std.proofs.Common.{IsSome, subst, arith}
use Rattle.std.proofs.lemmas.Bool.{false≢true}
use Rattle.quoting.specs.Areas.{LineAt}
use Rattle.quoting.proofs.Plans.{rise_starts, rise_turn, rise_ends, above_first, step_there, line_up}
use Rattle.quoting.proofs.climbs.climb_to.Goals as goal

pub loop-init : goal.loop-init
loop-init g c n m u h r s =
    (rise_starts g.R.Rate.kind g.met.R.Rate.laws g.R.Rate.means c.args.areas n m h c.args.stop c.args.from u r, s)

pub returns-then-p-stop : goal.returns-then-p-stop
returns-then-p-stop g c n m u h r s =
    subst (λ x. LineAt g.R.Rate.kind g.R.Rate.means c.args.areas n m x c.args.direction u c.loop.reached) c.if-p-stop.true (c.loop.invariant n m u h r s).1

pub returns-in_default : goal.returns-in_default
returns-in_default g c n m u h r s =
    let w = (c.loop.invariant n m u h r s).0 in
    let z = above_first g.R.Rate.kind g.met.R.Rate.laws g.R.Rate.means c.args.areas n m h c.args.stop u c.loop.p w.reaches c.if-p-stop.false in
    absurd (false≢true (subst IsSome c.in_default.is
    (c.step_from.ensures.there (step_there g.R.Rate.kind g.met.R.Rate.laws g.R.Rate.means c.args.areas n m h c.loop.p z w.reaches.in_range))))

pub loop-preserved : goal.loop-preserved
loop-preserved g c n m u h r s =
    let w = c.loop.invariant n m u h r s in
    let z = above_first g.R.Rate.kind g.met.R.Rate.laws g.R.Rate.means c.args.areas n m h c.args.stop u c.loop.p w.0.reaches c.if-p-stop.false in (
      rise_turn g.R.Rate.kind g.met.R.Rate.laws g.R.Rate.means c.args.areas n m h c.args.stop c.args.from u c.loop.p c.loop.counter c.in-Some.step
          w.0 c.if-p-stop.false c.in-Some.ensures.is,
      line_up g.R.Rate.kind g.met.R.Rate.laws g.R.Rate.means c.args.areas n m h c.loop.p u c.args.direction c.loop.reached c.climbed-reached.result c.in-Some.step
          z w.0.reaches.in_range w.0.reaches.touches w.1 c.in-Some.ensures.is c.climbed-reached.ensures,
    )

pub returns : goal.returns
returns g c n m u h r s =
    absurd (rise_ends g.R.Rate.kind g.met.R.Rate.laws g.R.Rate.means c.args.areas n m h c.args.stop c.args.from u c.loop.p c.loop.counter
    r.in_range (c.loop.invariant n m u h r s).0 (omega arith))
