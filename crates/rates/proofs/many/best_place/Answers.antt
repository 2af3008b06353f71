use Rattle.std.proofs.Common.{◌+◌, arith, rules, refl, inl, sym, subst}
use Rattle.rates.proofs.Choosing.{FirstSoFar, moves_so_far, stands_there, stays_so_far, so_far_at_last}
use Rattle.rates.proofs.many.best_place.Goals as goal
use Rattle.rates.proofs.many.best_place.Goals.{then-better, else-better}

pub loop-i-init : goal.loop-i-init
loop-i-init g c = (search rules, search rules, inl (refl, refl))

pub loop-i-preserved : goal.loop-i-preserved
loop-i-preserved g c =
    let rates = c.args.rates.now in
    let i = c.loop-i.i in
    let k = c.loop-i.place in
    let v = c.index-rates-i in
    let h = c.loop-i.invariant in
    elim c.if-better.branch [
      | then-better way ↦ (
        omega (arith, way.place-is, c.loop-i-test.true),
        stands_there rates i c.if-better.place v.result c.if-better.best way.best-is way.place-is v.is,
        subst (FirstSoFar g.R.Rate.kind g.R.Rate.means rates (i + 1)) (sym way.place-is)
            (moves_so_far g.R.Rate.kind g.met.R.Rate.laws g.R.Rate.means rates i k v.result c.loop-i.best c.better.result
            c.loop-i-test.true h.0 v.is h.1 c.better.ensures way.if-better.true h.2),
      )
      | else-better way ↦ (
        omega (arith, way.place-is, h.0),
        stands_there rates k c.if-better.place c.loop-i.best c.if-better.best way.best-is way.place-is h.1,
        subst (FirstSoFar g.R.Rate.kind g.R.Rate.means rates (i + 1)) (sym way.place-is)
            (stays_so_far g.R.Rate.kind g.met.R.Rate.laws g.R.Rate.means rates i k v.result c.loop-i.best c.better.result
            c.loop-i-test.true h.0 v.is h.1 c.better.ensures way.if-better.false h.2),
      )
    ]

pub returns : goal.returns
returns g c =
    so_far_at_last g.R.Rate.kind g.met.R.Rate.laws g.R.Rate.means c.args.rates.now c.loop-i.place (omega (arith, c.loop-i.invariant.0))
    (subst (λ n. FirstSoFar g.R.Rate.kind g.R.Rate.means c.args.rates.now n c.loop-i.place) (omega (arith, c.loop-i-test.false, c.loop-i.auto.i-end)) c.loop-i.invariant.2)
