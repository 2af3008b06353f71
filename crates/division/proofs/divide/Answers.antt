use Rattle.std.proofs.Common.{◌≡◌, ◌+◌, ◌-◌, ◌*◌, arith}
use Rattle.division.specs.Outcome.{Lent}
use Rattle.division.proofs.Fronts.{outcome}
use Rattle.division.proofs.divide.Goals as goal

pub returns : goal.returns
returns c =
    let n = c.args.n in
    let ss = c.args.sides.now in
    let ps = c.args.pieces.now in
    let ts = c.args.todo.now in
    let k = 2 * n - 5 + 2 - 0 in
    let is : k ≡ 2 * n - 3 = omega arith in
    let h = c.divide_front.ensures in
    let lent : Lent n ss ps ts = record { least = omega arith; most = omega arith; sides = omega arith; pieces = omega arith; list = omega arith } in
    outcome n ss ps ts lent k is c.divide_front.new.sides c.divide_front.new.pieces c.divide_front.result (h.done n) h.refused h.same h.past
