use Rattle.std.proofs.Common.{◌+◌, ◌*◌, length, Ok, Err, Result, refl, subst, arith}
use Rattle.std.proofs.lemmas.Result.{err_from_is_err_and}
use Rattle.ring.specs.Faults.{Condition}
use Rattle.ring.proofs.Firsts.{first_early, first_of_all}
use Rattle.division.specs.declared.Undivided.{Undivided}
use Rattle.division.specs.Outcome.{Outcome}
use Rattle.plan.specs.Layout.{lent}
use Rattle.plan.proofs.Checks.{all_areas, room}
use Rattle.plan.proofs.Sides.{always_divided, front_filled, laid_out}
use Rattle.plan.proofs.lay_out.Goals as goal

pub returns-in_err-check_room : goal.returns-in_err-check_room
returns-in_err-check_room c =
    let p = err_from_is_err_and c.from_residual.result c.from_residual.ensures.1 in
    let areas = lent c.args.n (length c.args.sides.now) (length c.args.pieces.now) (length c.args.todo.now) in
    let links = c.args.links.now in
    let f = c.in_err-check_room.field-0.0 in
    record {
      checked = rw (p.1, p.2)
          (first_of_all c.args.n areas links (Err f)
          (first_early (Condition c.args.n areas links) 0 2 (3 + 3 * length links) f (omega arith) (c.in_err-check_room.ensures links)));
      left = rw p.1 (record { sides = refl; pieces = refl });
    }

pub returns-in_err-triangulate : goal.returns-in_err-triangulate
returns-in_err-triangulate c =
    let p = err_from_is_err_and c.from_residual-in_err-triangulate.result c.from_residual-in_err-triangulate.ensures.1 in
    let links = c.args.links.now in
    let f = c.in_err-triangulate.field-0.0 in
    record {
      checked = rw (p.1, p.2)
          (all_areas c.args.n (length c.args.sides.now) (length c.args.pieces.now) (length c.args.todo.now) links
          (c.in_ok-check_room.ensures links) (Err f) c.in_err-triangulate.ensures.checked);
      left = rw p.1 (record { sides = c.in_err-triangulate.ensures.left; pieces = refl });
    }

pub unwrap-requires : goal.unwrap-requires
unwrap-requires c =
    let w = room c.args.n (length c.args.sides.now) (length c.args.pieces.now) (length c.args.todo.now) c.args.links.now (c.in_ok-check_room.ensures c.args.links.now) in
    rw (always_divided c.args.n c.divide.result c.triangulate.new.sides c.divide.new.sides c.args.pieces.now c.args.todo.now c.divide.new.pieces
    w.least w.most w.pieces w.list c.in_ok-triangulate.ensures.left.triangulated c.divide.ensures)

pub returns : goal.returns
returns c =
    let links = c.args.links.now in
    let early = c.in_ok-check_room.ensures links in
    let w = room c.args.n (length c.args.sides.now) (length c.args.pieces.now) (length c.args.todo.now) links early in
    let T = c.in_ok-triangulate.ensures.left.triangulated in
    let done = always_divided c.args.n c.divide.result c.triangulate.new.sides c.divide.new.sides c.args.pieces.now c.args.todo.now c.divide.new.pieces
    w.least w.most w.pieces w.list T c.divide.ensures in
    let o = subst (λ (r : Result Unit Undivided). Outcome c.args.n c.triangulate.new.sides c.args.pieces.now c.args.todo.now r c.divide.new.sides c.divide.new.pieces) done c.divide.ensures in
    record {
      checked = all_areas c.args.n (length c.args.sides.now) (length c.args.pieces.now) (length c.args.todo.now) links early (Ok tt) c.in_ok-triangulate.ensures.checked;
      left = laid_out c.args.n links c.args.sides.now c.triangulate.new.sides c.divide.new.sides c.args.pieces.now c.divide.new.pieces w.least w.most
          c.in_ok-triangulate.ensures.left o.2 (o.1 (front_filled c.args.n c.triangulate.new.sides w.least w.most T));
    }
