use Rattle.std.proofs.Common.{◌≡◌, ℕ, Ok, Err, Some, refl, ap, ◌∙◌, arith}
use Rattle.pieces.specs.Sides.{ends_of, lengths}
use Rattle.pieces.specs.Cuts.{parted, size, first_part, second_part}
use Rattle.pieces.specs.Order.{first_of, cut_record, seam_in}
use Rattle.division.proofs.Turning.{taken, turn_uncut, turn_cut}
use Rattle.division.proofs.loops.cut_next.Goals as goal

pub returns-then-triangles-le1-clause-turn : goal.returns-then-triangles-le1-clause-turn
returns-then-triangles-le1-clause-turn c =
    let P = c.in_ok-piece.piece in
    let some : c.pop.result ≡ Some P = grind arith in
    turn_uncut (ends_of c.args.sides.now) c.args.p c.args.todo.now.items.now c.args.todo.now.len P c.pop.new.self.len c.pop.new.self.items.now
    (taken c.pop.result P _ _ _ _ some c.pop.ensures.popped)
    c.triangles.result c.single.result c.triangles.ensures c.if-triangles-le1.true c.single.ensures

pub returns-in_err-wait-clause-turn : goal.returns-in_err-wait-clause-turn
returns-in_err-wait-clause-turn c =
    let e = ends_of c.args.sides.now in
    let len = lengths c.args.sides.now in
    let P = c.in_ok-piece.piece in
    let p = c.args.p in
    let some : c.pop.result ≡ Some P = grind arith in
    let first : c.first_part-first.result ≡ first_of len p P = c.first_part-first.ensures ∙ ap (first_part len p P) c.seam_of-seam.ensures in
    let made : c.parted.result ≡ cut_record e p P =
    c.parted.ensures
    ∙ ap (λ (v : ℕ). parted e p P v c.triangles-size.result) c.seam_of-seam.ensures
    ∙ ap (parted e p P (seam_in len P)) (c.triangles-size.ensures ∙ ap (size len) first) in
    turn_cut e p c.args.todo.now.items.now c.args.todo.now.len P c.pop.new.self.len c.pop.new.self.items.now
    (taken c.pop.result P _ _ _ _ some c.pop.ensures.popped)
    c.triangles.result c.parted.result c.first_part-first.result c.second_part.result (Err c.in_err-wait.field-0.0) _ c.wait.new.todo.len c.wait.new.todo.items.now
    c.triangles.ensures c.if-triangles-le1.false made first
    (c.second_part.ensures ∙ ap (second_part len p P) c.seam_of-seam.ensures)
    c.in_err-wait.ensures.both (λ q. absurd cc)

pub returns-clause-turn : goal.returns-clause-turn
returns-clause-turn c =
    let e = ends_of c.args.sides.now in
    let len = lengths c.args.sides.now in
    let P = c.in_ok-piece.piece in
    let p = c.args.p in
    let some : c.pop.result ≡ Some P = grind arith in
    let first : c.first_part-first.result ≡ first_of len p P = c.first_part-first.ensures ∙ ap (first_part len p P) c.seam_of-seam.ensures in
    let made : c.parted.result ≡ cut_record e p P =
    c.parted.ensures
    ∙ ap (λ (v : ℕ). parted e p P v c.triangles-size.result) c.seam_of-seam.ensures
    ∙ ap (parted e p P (seam_in len P)) (c.triangles-size.ensures ∙ ap (size len) first) in
    turn_cut e p c.args.todo.now.items.now c.args.todo.now.len P c.pop.new.self.len c.pop.new.self.items.now
    (taken c.pop.result P _ _ _ _ some c.pop.ensures.popped)
    c.triangles.result c.parted.result c.first_part-first.result c.second_part.result (Ok c.in_ok-wait.field-0) (Ok tt) c.wait.new.todo.len c.wait.new.todo.items.now
    c.triangles.ensures c.if-triangles-le1.false made first
    (c.second_part.ensures ∙ ap (second_part len p P) c.seam_of-seam.ensures)
    c.in_ok-wait.ensures.both (λ _. refl)
