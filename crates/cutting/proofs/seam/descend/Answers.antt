use Rattle.std.proofs.Common.{◌≡◌, suc, ◌+◌, ◌-◌, ◌<◌, sym, ap, ◌∙◌, arith}
use Rattle.pieces.specs.Sides.{lengths}
use Rattle.pieces.specs.Cuts.{descend, heavier}
use Rattle.cutting.proofs.Mirrors.{right_heavier, left_heavier, descend_stops, descend_goes, descend_none}
use Rattle.cutting.proofs.seam.descend.Goals.{then-weight, else-weight}
use Rattle.cutting.proofs.seam.descend.Goals as goal

pub returns-then-weight-most : goal.returns-then-weight-most
returns-then-weight-most g c w says =
    let here = says c.loop.v c.weight.result c.loop.invariant.0 c.weight.ensures in
    sym (descend_stops (lengths c.args.sides.now) w c.args.most c.loop.v (c.args.steps - c.loop.counter) (omega arith)) ∙ c.loop.invariant.1 w says

pub loop-preserved : goal.loop-preserved
loop-preserved g c =
    let l = c.left_of-left.result in
    let r = c.right_of-right.result in
    let fits : c.if-weight.v < 65536 =
    elim c.if-weight.branch [ then-weight b ↦ omega (arith, b.v-is, c.right_of-right.type_inv) | else-weight b ↦ omega (arith, b.v-is, c.left_of-left.type_inv) ] in (
      fits,
      λ w says.
          let len = lengths c.args.sides.now in
          let v = c.loop.v in
          let left = c.args.steps - (c.loop.counter + 1) in
          let one : suc left ≡ c.args.steps - c.loop.counter = omega arith in
          let here = says v c.weight.result c.loop.invariant.0 c.weight.ensures in
          let of_left = says l c.weight-in-loop.result c.left_of-left.type_inv c.weight-in-loop.ensures in
          let of_right = says r c.weight-in-loop-2.result c.right_of-right.type_inv c.weight-in-loop-2.ensures in
          let is : c.if-weight.v ≡ heavier len w v =
          elim c.if-weight.branch [
            | then-weight b ↦ b.v-is ∙ right_heavier len w v l r c.weight-in-loop.result c.weight-in-loop-2.result c.left_of-left.ensures c.right_of-right.ensures of_left of_right b.if-weight.true
            | else-weight b ↦ b.v-is ∙ left_heavier len w v l r c.weight-in-loop.result c.weight-in-loop-2.result c.left_of-left.ensures c.right_of-right.ensures of_left of_right b.if-weight.false
          ] in
          ap (descend len w c.args.most left) is
          ∙ sym (descend_goes len w c.args.most v left (omega arith))
          ∙ ap (λ f. descend len w c.args.most f v) one
          ∙ c.loop.invariant.1 w says,
    )

pub returns : goal.returns
returns g c w says =
    let len = lengths c.args.sides.now in
    let none : 0 ≡ c.args.steps - c.loop.counter = omega arith in
    sym (descend_none len w c.args.most c.loop.v) ∙ ap (λ f. descend len w c.args.most f c.loop.v) none ∙ c.loop.invariant.1 w says
