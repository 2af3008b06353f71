use Rattle.std.proofs.Common.{◌≡◌, ℕ, min, List, [], ◌∷◌, ap, ◌∙◌, subst, arith}
use Rattle.std.proofs.lemmas.Result.{err_from_is_err_and}
use Rattle.triangulation.specs.Trees.{side_count}
use Rattle.ring.specs.declared.Area.{Area}
use Rattle.ring.specs.Faults.{Condition, FirstIn}
use Rattle.ring.specs.Areas.{side_area}
use Rattle.ring.proofs.Firsts.{first_more, first_early}
use Rattle.ring.proofs.Drawing.{few_enough}
use Rattle.ring.proofs.fill.check_room.Goals as goal

pub returns-in_err-check_terminals : goal.returns-in_err-check_terminals
returns-in_err-check_terminals c links =
    let p = err_from_is_err_and c.from_residual.result c.from_residual.ensures.1 in
    rw (p.1, p.2)
    (first_early (Condition c.args.n (side_area c.args.n c.args.given ∷ []) links) 0 1 2 c.in_err-check_terminals.field-0.0 (omega arith)
    (c.in_err-check_terminals.ensures (side_area c.args.n c.args.given ∷ []) links))

pub returns : goal.returns
returns c links =
    let H : List Area → ℕ → Type 0 = λ a n. FirstIn (Condition n a links) 1 2 c.check_areas.result in
    let t = c.in_ok-check_terminals.ensures in
    let m = few_enough c.args.n (side_area c.args.n c.args.given ∷ []) links (t (side_area c.args.n c.args.given ∷ []) links) in
    let z : min c.args.n 4096 ≡ c.args.n = omega arith in
    let e : record { needed = c.side_count-needed.result; given = c.args.given } ≡ side_area c.args.n c.args.given
    = ap (λ (k : ℕ). record { needed = k; given = c.args.given }) (c.side_count-needed.ensures ∙ ap side_count z) in
    first_more (Condition c.args.n (side_area c.args.n c.args.given ∷ []) links) 0 1 2 c.check_areas.result (omega arith)
    (t (side_area c.args.n c.args.given ∷ []) links)
    (subst (λ (a : Area). H (a ∷ []) c.args.n) e (c.check_areas.ensures c.args.n links))
