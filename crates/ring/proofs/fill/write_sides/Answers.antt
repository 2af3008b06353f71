use Rattle.std.proofs.Common.{◌+◌, ◌<◌, ◌≤◌, List, length, drop, sym, refl, ap, ◌∙◌, subst, arith, length-set}
use Rattle.std.proofs.lemmas.List.{drop-set-lt}
use Rattle.triangulation.specs.Trees.{side_count}
use Rattle.ring.specs.declared.Side.{Side}
use Rattle.ring.proofs.Filling.{Passed, passed_none, read_within, passed_unit, passed_node, node_rest, passed_all}
use Rattle.ring.proofs.fill.write_sides.Goals as goal
use Rattle.ring.proofs.fill.write_sides.Goals.{then-low-high, else-low-high}

pub loop-i-init : goal.loop-i-init
loop-i-init c =
    (passed_none c.args.n c.args.links.now (omega arith) c.args.sides.now c.new_side.result (omega arith) c.new_side.ensures, refl)

pub overflow_add-low : goal.overflow_add-low
overflow_add-low c =
    let r = read_within c.args.n c.args.links.now (omega arith) c.loop-i.sides c.loop-i.i c.loop-i.invariant.0 (omega arith) in
    omega arith

pub bounds-sides-i-then-low-high : goal.bounds-sides-i-then-low-high
bounds-sides-i-then-low-high c =
    let r = read_within c.args.n c.args.links.now (omega arith) c.loop-i.sides c.loop-i.i c.loop-i.invariant.0 (omega arith) in
    let l = length-set c.args.sides.now 0 c.new_side.result in
    omega arith

pub bounds-sides-i-then-low-high-2 : goal.bounds-sides-i-then-low-high-2
bounds-sides-i-then-low-high-2 c =
    let r = read_within c.args.n c.args.links.now (omega arith) c.loop-i.sides c.loop-i.i c.loop-i.invariant.0 (omega arith) in
    let l = length-set c.args.sides.now 0 c.new_side.result in
    simp length-set (omega arith)

pub loop-i-preserved : goal.loop-i-preserved
loop-i-preserved c =
    let n = c.args.n in
    let links = c.args.links.now in
    let xs = c.loop-i.sides in
    let i = c.loop-i.i in
    let h : 2 ≤ n = omega arith in
    let l : i < side_count n = omega arith in
    let e = length-set c.args.sides.now 0 c.new_side.result in
    let o : side_count n ≤ length xs = omega arith in
    elim c.if-low-high.branch [
      | then-low-high w ↦
          let t = w.third_terminal-third in (
            subst (λ (s : List Side). Passed n links (i + 1) s) (sym w.sides-is)
                (passed_node n links h xs i c.loop-i.invariant.0 l t.result t.ensures o w.new_side-then-low-high.result w.new_side-then-low-high-2.result
                w.new_side-then-low-high.ensures w.new_side-then-low-high-2.ensures),
            ap (drop (side_count n)) w.sides-is
                ∙ (node_rest n links h xs i c.loop-i.invariant.0 l t.result t.ensures o w.new_side-then-low-high.result w.new_side-then-low-high-2.result
                ∙ c.loop-i.invariant.1),
          )
      | else-low-high w ↦ (
        subst (λ (s : List Side). Passed n links (i + 1) s) (sym w.sides-is) (passed_unit n links h xs i c.loop-i.invariant.0 l w.if-low-high.false),
        ap (drop (side_count n)) w.sides-is ∙ c.loop-i.invariant.1,
      )
    ]

pub returns : goal.returns
returns c =
    let e = length-set c.args.sides.now 0 c.new_side.result in
    passed_all c.args.n c.args.links.now (omega arith) c.args.sides.now c.loop-i.sides c.loop-i.i (omega arith) c.loop-i.invariant.0 (omega arith)
    (c.loop-i.invariant.1 ∙ drop-set-lt (side_count c.args.n) c.args.sides.now 0 c.new_side.result (omega arith))
