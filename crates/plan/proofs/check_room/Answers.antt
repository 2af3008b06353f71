use Rattle.std.proofs.Common.{◌≡◌, ℕ, min, List, [], ◌∷◌, ap, ◌∙◌, subst, arith}
use Rattle.std.proofs.lemmas.Result.{err_from_is_err_and}
use Rattle.triangulation.specs.Trees.{side_count}
use Rattle.ring.specs.declared.Area.{Area}
use Rattle.ring.specs.Faults.{Condition, FirstIn}
use Rattle.ring.proofs.Firsts.{first_more, first_early}
use Rattle.ring.proofs.Drawing.{few_enough}
use Rattle.plan.specs.Layout.{lent, piece_count, todo_count}
use Rattle.plan.proofs.check_room.Goals as goal

pub returns-in_err-check_terminals : goal.returns-in_err-check_terminals
returns-in_err-check_terminals c links =
    let p = err_from_is_err_and c.from_residual.result c.from_residual.ensures.1 in
    let areas = lent c.args.n c.args.sides c.args.pieces c.args.todo in
    rw (p.1, p.2)
    (first_early (Condition c.args.n areas links) 0 1 2 c.in_err-check_terminals.field-0.0 (omega arith) (c.in_err-check_terminals.ensures areas links))

pub returns : goal.returns
returns c links =
    let n = c.args.n in
    let areas = lent n c.args.sides c.args.pieces c.args.todo in
    let t = c.in_ok-check_terminals.ensures areas links in
    let m = few_enough n areas links t in
    let z : min n 4096 ≡ n = omega arith in
    let given : ℕ → ℕ → List Area = λ s p.
    record { needed = s; given = c.args.sides } ∷ (record { needed = p; given = c.args.pieces } ∷ (record { needed = todo_count; given = c.args.todo } ∷ [])) in
    let e : given c.side_count.result c.piece_count.result ≡ areas =
    ap (λ (s : ℕ). given s c.piece_count.result) (c.side_count.ensures ∙ ap side_count z)
    ∙ ap (given (side_count n)) (c.piece_count.ensures ∙ ap piece_count z) in
    first_more (Condition n areas links) 0 1 2 c.check_areas.result (omega arith) t
    (subst (λ (a : List Area). FirstIn (Condition n a links) 1 2 c.check_areas.result) e (c.check_areas.ensures n links))
