use Rattle.std.proofs.Common.{◌≡◌, ℕ, ◌≤◌, length, take, refl, subst, arith}
use Rattle.std.proofs.lemmas.List.{length-take, take-append-le}
use Rattle.pieces.specs.Sides.{ends_of}
use Rattle.pieces.specs.Cuts.{whole}
use Rattle.pieces.specs.Order.{Records}
use Rattle.pieces.proofs.Waiting.{ends}
use Rattle.division.proofs.Turning.{begun, refit, turned}
use Rattle.division.proofs.loops.cut_pieces.Goals as goal

pub loop-p-init : goal.loop-p-init
loop-p-init c n f = (
  f.list_room,
  begun n (ends_of c.args.sides.now) f.filled _ c.new-waiting.result.items.now c.new-waiting.result.len c.whole.result c.push.new.self.len c.push.new.self.items.now
      c.new-waiting.ensures.empty c.whole.ensures c.in_ok-push.ensures.pushed,
)

pub returns-in_err-cut_next-clause-cut : goal.returns-in_err-cut_next-clause-cut
returns-in_err-cut_next-clause-cut c n f =
    let e = ends_of c.args.sides.now in
    let long : length (take c.args.count c.args.pieces.now) ≡ c.args.count = omega (arith, length-take c.args.count c.args.pieces.now, c.requires.room) in
    let g = refit n e c.args.count c.new-waiting.result.items.now c.args.todo.now c.new-waiting.result.len c.whole.result c.push.new.self.len c.push.new.self.items.now c.new-waiting.ensures.same c.in_ok-push.ensures.pushed f in
    let u = c.loop-p.invariant n g in
    let r = turned n e f.filled c.loop-p.p c.loop-p.records c.loop-p.waiting.items.now c.loop-p.waiting.len _ _ _ _ c.in_err-cut_next.ensures.turn (omega (arith, f.pieces, long)) (omega arith) u.0 u.1 in
    let q = r.answer in
    absurd cc

pub loop-p-preserved : goal.loop-p-preserved
loop-p-preserved c n f =
    let e = ends_of c.args.sides.now in
    let long : length (take c.args.count c.args.pieces.now) ≡ c.args.count = omega (arith, length-take c.args.count c.args.pieces.now, c.requires.room) in
    let u = c.loop-p.invariant n f in
    let r = turned n e f.filled c.loop-p.p c.loop-p.records c.loop-p.waiting.items.now c.loop-p.waiting.len _ _ _ _ c.in_ok-cut_next.ensures.turn (omega (arith, f.pieces, long)) (omega arith) u.0 u.1 in
    (r.list_room, r.under_way)

pub returns-clause-cut : goal.returns-clause-cut
returns-clause-cut c n f =
    let e = ends_of c.args.sides.now in
    let long : length (take c.args.count c.args.pieces.now) ≡ c.args.count = omega (arith, length-take c.args.count c.args.pieces.now, c.requires.room) in
    let g = refit n e c.args.count c.new-waiting.result.items.now c.args.todo.now c.new-waiting.result.len c.whole.result c.push.new.self.len c.push.new.self.items.now c.new-waiting.ensures.same c.in_ok-push.ensures.pushed f in
    let u = c.loop-p.invariant n g in
    let at : c.loop-p.p ≡ c.args.count = omega arith in
    let room : c.args.count ≤ length c.loop-p.records = omega arith in
    let records : Records e 0 whole (take c.args.count c.loop-p.records) = subst (λ (m : ℕ). Records e 0 whole (take m c.loop-p.records)) at
    (ends n e f.filled c.loop-p.p c.loop-p.records c.loop-p.waiting.items.now c.loop-p.waiting.len (omega (arith, f.pieces)) u.1) in
    record {
      answer = refl;
      records = rw take-append-le records;
    }
