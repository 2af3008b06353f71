use Rattle.std.proofs.Common.{◌≡◌, ℕ, ◌+◌, ◌*◌, length, Ok, Err, subst, arith}
use Rattle.std.proofs.lemmas.Result.{err_from_is_err_and}
use Rattle.ring.specs.Faults.{Condition, FirstIn}
use Rattle.ring.proofs.Firsts.{first_more, first_early, in_turn}
use Rattle.ring.proofs.checks.check_links.Goals as goal

pub returns-in_err-check_link : goal.returns-in_err-check_link
returns-in_err-check_link c areas =
    let p = err_from_is_err_and c.from_residual.result c.from_residual.ensures.1 in
    rw (p.1, p.2)
    (first_early (Condition c.args.n areas c.args.links.now) 3 (6 + 3 * c.loop-i.i) (3 + 3 * length c.args.links.now) c.in_err-check_link.field-0.0
    (omega arith)
    (first_more (Condition c.args.n areas c.args.links.now) 3 (3 + 3 * c.loop-i.i) (6 + 3 * c.loop-i.i) (Err c.in_err-check_link.field-0.0)
    (omega arith) (c.loop-i.invariant areas)
    (in_turn c.args.n areas c.args.links.now c.loop-i.i (Err c.in_err-check_link.field-0.0) c.loop-i-test.true (c.in_err-check_link.ensures areas))))

pub loop-i-preserved : goal.loop-i-preserved
loop-i-preserved c areas =
    let z : 6 + 3 * c.loop-i.i ≡ 3 + 3 * (c.loop-i.i + 1) = omega arith in
    subst (λ (m : ℕ). FirstIn (Condition c.args.n areas c.args.links.now) 3 m (Ok tt)) z
    (first_more (Condition c.args.n areas c.args.links.now) 3 (3 + 3 * c.loop-i.i) (6 + 3 * c.loop-i.i) (Ok tt)
    (omega arith) (c.loop-i.invariant areas)
    (in_turn c.args.n areas c.args.links.now c.loop-i.i (Ok tt) c.loop-i-test.true (c.in_ok-check_link.ensures areas)))
