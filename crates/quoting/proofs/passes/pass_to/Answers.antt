use Rattle.std.proofs.Common.{IsSome, subst, arith}
use Rattle.std.proofs.lemmas.Bool.{false≢true}
use Rattle.quoting.specs.Areas.{BestWithin}
use Rattle.quoting.proofs.Plans.{rise_starts, rise_turn, rise_ends, above_first, step_there}
use Rattle.quoting.proofs.passes.pass_to.Goals as goal

pub loop-init : goal.loop-init
loop-init g c n m u v h ru rv w = (
  rise_starts g.R.Rate.kind g.met.R.Rate.laws g.R.Rate.means c.args.areas n m h c.args.stop c.args.from u ru,
  rise_starts g.R.Rate.kind g.met.R.Rate.laws g.R.Rate.means c.args.areas n m h c.args.stop c.args.from v rv,
  w,
)

pub returns-then-p-stop : goal.returns-then-p-stop
returns-then-p-stop g c n m u v h ru rv w =
    subst (λ x. BestWithin g.R.Rate.kind g.R.Rate.means c.args.areas n m x u v c.loop.reached.best) c.if-p-stop.true (c.loop.invariant n m u v h ru rv w).2.best

pub returns-in_default : goal.returns-in_default
returns-in_default g c n m u v h ru rv w =
    let k = (c.loop.invariant n m u v h ru rv w).0 in
    let z = above_first g.R.Rate.kind g.met.R.Rate.laws g.R.Rate.means c.args.areas n m h c.args.stop u c.loop.p k.reaches c.if-p-stop.false in
    absurd (false≢true (subst IsSome c.in_default.is
    (c.step_from.ensures.there (step_there g.R.Rate.kind g.met.R.Rate.laws g.R.Rate.means c.args.areas n m h c.loop.p z k.reaches.in_range))))

pub loop-preserved : goal.loop-preserved
loop-preserved g c n m u v h ru rv w =
    let k = c.loop.invariant n m u v h ru rv w in
    let z = above_first g.R.Rate.kind g.met.R.Rate.laws g.R.Rate.means c.args.areas n m h c.args.stop u c.loop.p k.0.reaches c.if-p-stop.false in (
      rise_turn g.R.Rate.kind g.met.R.Rate.laws g.R.Rate.means c.args.areas n m h c.args.stop c.args.from u c.loop.p c.loop.counter c.in-Some.step
          k.0 c.if-p-stop.false c.in-Some.ensures.is,
      rise_turn g.R.Rate.kind g.met.R.Rate.laws g.R.Rate.means c.args.areas n m h c.args.stop c.args.from v c.loop.p c.loop.counter c.in-Some.step
          k.1 c.if-p-stop.false c.in-Some.ensures.is,
      c.known_above-reached.ensures n m c.loop.p u v h z k.0.reaches.in_range c.in-Some.ensures.is k.0.reaches.touches k.1.reaches.touches k.2,
    )

pub returns : goal.returns
returns g c n m u v h ru rv w =
    absurd (rise_ends g.R.Rate.kind g.met.R.Rate.laws g.R.Rate.means c.args.areas n m h c.args.stop c.args.from u c.loop.p c.loop.counter
    ru.in_range (c.loop.invariant n m u v h ru rv w).0 (omega arith))
