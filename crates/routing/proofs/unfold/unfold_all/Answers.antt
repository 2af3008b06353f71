use Rattle.std.proofs.Common.{◌≡◌, ℕ, ◌+◌, ◌-◌, false, true, length, sym, ap, ◌∙◌, inl, inr, arith, rules}
use Rattle.routing.specs.Waiting.{waiting, parts_on}
use Rattle.routing.proofs.Running.{rated_plan, next_part, started, finished, written_there}
use Rattle.routing.proofs.unfold.unfold_all.Goals as goal

pub loop-preserved : goal.loop-preserved
loop-preserved g c =
    let p = c.in-Some.ensures.popped in
    let turn = c.unfold_next.ensures in (
      turn.same_room ∙ ap length p.same ∙ c.loop.invariant.0,
      turn.stops_held ∙ c.loop.invariant.1,
      λ plan r below room h.
          let now = next_part plan c.args.from c.args.to r c.most_turns-end.result c.loop.counter (omega arith) c.loop.list c.in-Some.part c.pop.new.self c.loop.passed p
          (c.loop.invariant.2 plan r below room h) in
          (turn.turn plan c.args.from c.args.to r (c.most_turns-end.result - (c.loop.counter + 1)) below (omega (arith, ap length p.same, c.loop.invariant.0)) now).1,
    )

pub returns-in_default : goal.returns-in_default
returns-in_default g c n m r is o below to_below room long b some =
    let K = g.R.Rate.kind in
    let X = g.met.R.Rate.laws in
    let begin = started K X g.R.Rate.means c.args.areas n m o c.args.from c.args.to r below to_below b some
    c.most_turns-end.result c.most_turns-end.ensures is c.args.stops.now c.new-passed.result c.pass.new.self c.new-passed.ensures.count c.new-passed.ensures.same long
    c.pass.ensures.same_room c.pass.ensures.passed c.args.todo.now c.new-list.result c.new-list.ensures.empty c.new-list.ensures.same room
    c.put.result c.put.new.todo c.put.ensures.put in
    let held = c.loop.invariant.1 ∙ c.pass.ensures.held ∙ c.new-passed.ensures.held in
    let written = finished K X g.R.Rate.means c.args.areas n m o c.args.from c.args.to r below to_below b some (c.most_turns-end.result - c.loop.counter) (parts_on c.loop.list) c.loop.passed
    (inl (ap (λ (k : ℕ). waiting k c.loop.list.items.now) c.in_default.ensures.popped.none)) (c.loop.invariant.2 (rated_plan K X g.R.Rate.means c.args.areas n m o) r below begin.0 begin.1) in
    written_there K m c.args.from c.args.to r c.loop.passed.places.now _ c.loop.passed.count _ (search (rules, held)) (sym c.count.ensures) written

pub returns-in_err-unfold_next : goal.returns-in_err-unfold_next
returns-in_err-unfold_next g c n m r is o below to_below room long b some =
    let K = g.R.Rate.kind in
    let X = g.met.R.Rate.laws in
    let begin = started K X g.R.Rate.means c.args.areas n m o c.args.from c.args.to r below to_below b some
    c.most_turns-end.result c.most_turns-end.ensures is c.args.stops.now c.new-passed.result c.pass.new.self c.new-passed.ensures.count c.new-passed.ensures.same long
    c.pass.ensures.same_room c.pass.ensures.passed c.args.todo.now c.new-list.result c.new-list.ensures.empty c.new-list.ensures.same room
    c.put.result c.put.new.todo c.put.ensures.put in
    let p = c.in-Some.ensures.popped in
    let plan = rated_plan K X g.R.Rate.means c.args.areas n m o in
    let now = next_part plan c.args.from c.args.to r c.most_turns-end.result c.loop.counter (omega arith) c.loop.list c.in-Some.part c.pop.new.self c.loop.passed p
    (c.loop.invariant.2 plan r below begin.0 begin.1) in
    let no : false ≡ true = (c.in_err-unfold_next.ensures.turn plan c.args.from c.args.to r (c.most_turns-end.result - (c.loop.counter + 1)) below
    (omega (arith, ap length p.same, c.loop.invariant.0, begin.0)) now).0 in
    cc

pub returns : goal.returns
returns g c n m r is o below to_below room long b some =
    let K = g.R.Rate.kind in
    let X = g.met.R.Rate.laws in
    let begin = started K X g.R.Rate.means c.args.areas n m o c.args.from c.args.to r below to_below b some
    c.most_turns-end.result c.most_turns-end.ensures is c.args.stops.now c.new-passed.result c.pass.new.self c.new-passed.ensures.count c.new-passed.ensures.same long
    c.pass.ensures.same_room c.pass.ensures.passed c.args.todo.now c.new-list.result c.new-list.ensures.empty c.new-list.ensures.same room
    c.put.result c.put.new.todo c.put.ensures.put in
    let held = c.loop.invariant.1 ∙ c.pass.ensures.held ∙ c.new-passed.ensures.held in
    let written = finished K X g.R.Rate.means c.args.areas n m o c.args.from c.args.to r below to_below b some (c.most_turns-end.result - c.loop.counter) (parts_on c.loop.list) c.loop.passed
    (inr (omega arith)) (c.loop.invariant.2 (rated_plan K X g.R.Rate.means c.args.areas n m o) r below begin.0 begin.1) in
    written_there K m c.args.from c.args.to r c.loop.passed.places.now _ c.loop.passed.count _ (search (rules, held)) (sym c.count-2.ensures) written
