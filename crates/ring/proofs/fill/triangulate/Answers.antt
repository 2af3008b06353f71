use Rattle.std.proofs.Common.{◌+◌, ◌*◌, [], ◌∷◌, length, Ok, Err, refl, arith}
use Rattle.std.proofs.lemmas.Result.{err_from_is_err_and}
use Rattle.ring.specs.Faults.{Condition}
use Rattle.ring.specs.Areas.{side_area}
use Rattle.ring.proofs.Firsts.{first_early, first_of_all, first_by_links}
use Rattle.ring.proofs.Drawing.{room_enough, fills_drawn}
use Rattle.ring.proofs.fill.triangulate.Goals as goal

pub returns-in_err-check_room : goal.returns-in_err-check_room
returns-in_err-check_room c =
    let p = err_from_is_err_and c.from_residual.result c.from_residual.ensures.1 in
    let areas = side_area c.args.n (length c.args.sides.now) ∷ [] in
    let links = c.args.links.now in
    let f = c.in_err-check_room.field-0.0 in
    record {
      checked = rw (p.1, p.2)
          (first_of_all c.args.n areas links (Err f)
          (first_early (Condition c.args.n areas links) 0 2 (3 + 3 * length links) f (omega arith) (c.in_err-check_room.ensures links)));
      left = rw p.1 refl;
    }

pub returns-in_err-check_links : goal.returns-in_err-check_links
returns-in_err-check_links c =
    let p = err_from_is_err_and c.from_residual-in_err-check_links.result c.from_residual-in_err-check_links.ensures.1 in
    let areas = side_area c.args.n (length c.args.sides.now) ∷ [] in
    let links = c.args.links.now in
    let f = c.in_err-check_links.field-0.0 in
    record {
      checked = rw (p.1, p.2)
          (first_by_links c.args.n areas links (Err f) (c.in_ok-check_room.ensures links) (c.in_err-check_links.ensures areas));
      left = rw p.1 refl;
    }

pub write_sides-requires : goal.write_sides-requires
write_sides-requires c =
    let r = room_enough c.args.n (length c.args.sides.now) c.args.links.now (c.in_ok-check_room.ensures c.args.links.now) in
    record { enough = r.0; few = r.1; room = r.2 }

pub mark_links-requires : goal.mark_links-requires
mark_links-requires c =
    let r = room_enough c.args.n (length c.args.sides.now) c.args.links.now (c.in_ok-check_room.ensures c.args.links.now) in
    record { enough = r.0; few = r.1 }

pub returns : goal.returns
returns c =
    let areas = side_area c.args.n (length c.args.sides.now) ∷ [] in
    let links = c.args.links.now in
    let room = c.in_ok-check_room.ensures links in
    let r = room_enough c.args.n (length c.args.sides.now) links room in
    let none = first_by_links c.args.n areas links (Ok tt) room (c.in_ok-check_links.ensures areas) in
    record { checked = none; left = fills_drawn c.args.n areas links none (omega arith) c.args.sides.now _ (c.mark_links.ensures c.args.sides.now c.write_sides.ensures) }
