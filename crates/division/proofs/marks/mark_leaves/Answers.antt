use Rattle.std.proofs.Common.{◌≡◌, List, [], ◌∷◌, ◌++◌, suc, length, refl, ap, ◌∙◌, length-append, arith}
use Rattle.std.proofs.lemmas.Iterator.{YieldsList-from_range, YieldsList-from_slice, YieldsList-from_zip}
use Rattle.std.proofs.lemmas.Iterator.Consumers.{YieldsList-at, YieldsList-turn, YieldsList-end}
use Rattle.ring.specs.declared.Side.{Side}
use Rattle.pieces.specs.Marks.{mark_all, mark_piece}
use Rattle.division.proofs.Numbers.{numbered, numbered_all}
use Rattle.division.proofs.marks.mark_leaves.Goals as goal

pub loop-p-init : goal.loop-p-init
unfolding mark_all
loop-p-init c = refl

pub loop-p-preserved : goal.loop-p-preserved
unfolding mark_all
loop-p-preserved c =
    let ss = c.args.sides.now in
    let ps = c.args.pieces.now in
    let p = c.in-Some.p in
    let P = c.in-Some.piece in
    let i = length c.loop-p.yielded in
    let t = YieldsList-turn
    (YieldsList-at c.into_iter-p-iterator.ensures.into_iter_gives
    (YieldsList-from_zip (YieldsList-from_range 0 c.args.count c.args.count c.zip-p-items.ensures.first (omega arith)) (YieldsList-from_slice ps c.zip-p-items.ensures.second.0)))
    c.loop-p.yielded c.loop-p.p-iterator c.loop-p.yielded_by c.next.result c.next.new.self (p, P) c.in-Some.is c.next.ensures.steps in
    let m = numbered c.args.count ps i p P.now t.0 t.1 in
    let more : suc i ≡ length (c.loop-p.yielded ++ (p, P) ∷ []) = simp length-append (omega arith) in
    c.mark_piece.ensures
    ∙ ap (λ (xs : List Side). mark_piece xs p P.now) c.loop-p.invariant
    ∙ ap (λ q. mark_piece (mark_all ss ps i) q P.now) m.0
    ∙ ap (mark_piece (mark_all ss ps i) i) m.1
    ∙ ap (mark_all ss ps) more

pub returns : goal.returns
returns c =
    let ps = c.args.pieces.now in
    let t = YieldsList-end
    (YieldsList-at c.into_iter-p-iterator.ensures.into_iter_gives
    (YieldsList-from_zip (YieldsList-from_range 0 c.args.count c.args.count c.zip-p-items.ensures.first (omega arith)) (YieldsList-from_slice ps c.zip-p-items.ensures.second.0)))
    c.loop-p.yielded c.loop-p.p-iterator c.loop-p.yielded_by c.next.result c.next.new.self c.in-None.is c.next.ensures.steps in
    c.loop-p.invariant ∙ ap (mark_all c.args.sides.now ps) (numbered_all c.args.count ps (length c.loop-p.yielded) t.1)
