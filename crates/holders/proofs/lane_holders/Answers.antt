use Rattle.std.proofs.Common.{◌≡◌, get_or, sym, subst}
use Rattle.ring.specs.declared.Side.{Side}
use Rattle.pieces.specs.Division.{LeafMarked}
use Rattle.pieces.specs.Sides.{no_side, span}
use Rattle.holders.proofs.Steps.{walked_holders}
use Rattle.holders.proofs.lane_holders.Goals as goal

pub returns-clause-holders : goal.returns-clause-holders
returns-clause-holders c n e fl d marks _ long range wide =
    let ps = c.args.records.pieces.now in
    let i = c.args.i in
    let side = c.in_ok-side.side.now in
    let is : side ≡ get_or c.args.records.sides.now i no_side = c.in_ok-side.ensures.lookup.3.1 no_side in
    walked_holders ps i side.leaf c.args.out.now c.way_up.result c.way_up.new.out c.way_up.ensures.walked n e fl d
    (subst (λ (s : Side). LeafMarked n (span e) ps i s.leaf) (sym is) (marks i range)) long range wide
