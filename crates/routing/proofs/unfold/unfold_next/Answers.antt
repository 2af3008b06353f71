use Rattle.std.proofs.Common.{map, refl, get_or, subst}
use Rattle.std.proofs.lemmas.Bool.{both_ways}
use Rattle.pieces.specs.Sides.{no_side}
use Rattle.quoting.specs.declared.seams.Seam.{Seam}
use Rattle.routing.specs.Splits.{IsSeamOf, TouchesSeam, SplitAt}
use Rattle.routing.specs.Waiting.{part_of, parts_on}
use Rattle.routing.proofs.Running.{triangle_turn, seam_turn}
use Rattle.routing.proofs.unfold.unfold_next.Goals as goal

pub returns-then-is_single-clause-turn : goal.returns-then-is_single-clause-turn
returns-then-is_single-clause-turn g c plan s t r left below room h =
    let means = g.R.Rate.means in
    let a = c.args.areas in (
      refl,
      triangle_turn g.R.Rate.kind g.met.R.Rate.laws plan.n plan.lanes a.records.sides.now a.records.pieces.now (map means a.lanes.now) (map means a.sheets.now)
          plan.best plan.rated s t r below means (part_of c.args.part) (parts_on c.args.todo.now) left c.args.stops.now
          c.piece-piece.result c.piece-piece.ensures (c.is_single.ensures.0 c.if-is_single.true) c.on-t.result c.on-t.ensures
          c.pass_triangle.new.stops c.pass_triangle.ensures.passed h,
    )

pub returns-clause-turn : goal.returns-clause-turn
returns-clause-turn g c plan s t r left below room h =
    let means = g.R.Rate.means in
    let a = c.args.areas in
    let stops = c.args.stops.now in
    let P = c.piece-piece.result in
    seam_turn g.R.Rate.kind g.met.R.Rate.laws plan.n plan.lanes a.records.sides.now a.records.pieces.now (map means a.lanes.now) (map means a.sheets.now)
    plan.best plan.rated s t r below c.args.part c.args.todo.now left stops.places.now stops.count
    P (get_or a.records.sides.now P.seam no_side) c.piece-piece.ensures (λ z. both_ways c.is_single.result c.if-is_single.false (c.is_single.ensures.1 z)) refl room
    c.split-parts.result
    (subst (λ (s : Seam). IsSeamOf plan s → TouchesSeam plan s c.args.part.from → TouchesSeam plan s c.args.part.to → SplitAt plan s c.args.part c.split-parts.result) c.of.ensures (c.split-parts.ensures plan))
    c.put_all.result c.put_all.new.todo c.put_all.ensures.put h
