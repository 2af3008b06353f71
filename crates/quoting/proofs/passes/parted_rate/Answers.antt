use Rattle.std.proofs.Common.{◌≡◌, ◌+◌, ◌*◌, ◌<◌, IsSome, sym, subst, ap}
use Rattle.std.proofs.lemmas.Bool.{false≢true}
use Rattle.climbing.specs.Steps.{across_of, SeamStands}
use Rattle.quoting.specs.Areas.{ends, TouchesPiece}
use Rattle.quoting.specs.declared.steps.Step.{Step}
use Rattle.quoting.proofs.Plans.{parted_there, step_there, known_parted}
use Rattle.quoting.proofs.passes.parted_rate.Goals as goal

pub returns-in_default : goal.returns-in_default
returns-in_default g c n m h w apart =
    let K = g.R.Rate.kind in
    let X = g.met.R.Rate.laws in
    let f = g.R.Rate.means in
    let a = c.args.areas in
    let own = c.child_towards-own.result in
    let q = parted_there K X f a n m h c.args.stop c.args.p c.args.from c.args.to own c.piece.result w apart c.piece.ensures c.child_towards-own.ensures in
    absurd (false≢true (subst IsSome c.in_default.is (c.step_from.ensures.there (step_there K X f a n m h own q.own_not_first q.own_in_range))))

pub returns-in_default-step_from : goal.returns-in_default-step_from
returns-in_default-step_from g c n m h w apart =
    let K = g.R.Rate.kind in
    let X = g.met.R.Rate.laws in
    let f = g.R.Rate.means in
    let a = c.args.areas in
    let ps = a.records.pieces.now in
    let own = c.child_towards-own.result in
    let q = parted_there K X f a n m h c.args.stop c.args.p c.args.from c.args.to own c.piece.result w apart c.piece.ensures c.child_towards-own.ensures in
    let is_across : c.in-Some.near.across.piece ≡ across_of ps own = ap (λ (x : Step). x.across.piece) c.in-Some.ensures.is in
    absurd (false≢true (subst IsSome c.in_default-step_from.is (c.step_from-2.ensures.there
    (subst (SeamStands (ends a) ps) (sym is_across) (step_there K X f a n m h (across_of ps own) q.across_not_first q.across_in_range)))))

pub returns : goal.returns
returns g c n m h w apart =
    let K = g.R.Rate.kind in
    let X = g.met.R.Rate.laws in
    let f = g.R.Rate.means in
    let a = c.args.areas in
    let ps = a.records.pieces.now in
    let u = c.args.from in
    let v = c.args.to in
    let own = c.child_towards-own.result in
    let q = parted_there K X f a n m h c.args.stop c.args.p u v own c.piece.result w apart c.piece.ensures c.child_towards-own.ensures in
    let is_across : c.in-Some.near.across.piece ≡ across_of ps own = ap (λ (x : Step). x.across.piece) c.in-Some.ensures.is in
    c.pass_to.ensures n m u v h w.reaches_first w.reaches_second
    (known_parted K X f a n m h c.args.p u v own c.in-Some.near c.in-Some-step_from.far
    c.line_at-row.result c.line_at-column.result c.climbed.result c.climbed-2.result c.by_seam.result q c.in-Some.ensures.is c.in-Some-step_from.ensures.is
    (c.line_at-row.ensures n m h q.own_in_range q.own_touches)
    (c.line_at-column.ensures n m h (subst (λ x. x + 5 < 2 * n) (sym is_across) q.across_in_range) (subst (λ x. TouchesPiece a n x v) (sym is_across) q.across_touches))
    c.climbed.ensures c.climbed-2.ensures c.by_seam.ensures)
