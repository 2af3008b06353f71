use Rattle.std.proofs.Common.{false, map, ap, ◌≤◌, arith}
use Rattle.piece_rates.specs.Sizes.{largest}
use Rattle.quoting.specs.Places.{shown}
use Rattle.quoting.proofs.Places.{by_seam_same, to_end_size}
use Rattle.quoting.proofs.steps.Step.by_seam.Goals as goal

pub returns : goal.returns
returns g c wr wc wa =
    let K = g.R.Rate.kind in
    let X = g.met.R.Rate.laws in
    let m = g.R.Rate.means in
    let row = shown m c.args.row in
    let sheets = map m c.args.areas.sheets.now in
    let s = c.args.self in
    let there = c.args.there in
    let low = m c.to_seam-ends.result.low in
    let high = m c.to_seam-ends.result.high in
    let is_low = c.to_seam-ends.ensures.low wr wa in
    let is_high = c.to_seam-ends.ensures.high wr wa in
    let low_on : K.size (m c.at.result) ≤ largest = omega (arith, wc.bounded there.low, ap K.size c.at.ensures) in
    let high_on : K.size (m c.at-2.result) ≤ largest = omega (arith, wc.bounded there.high, ap K.size c.at-2.ensures) in
    by_seam_same K row (shown m c.args.column) sheets s there low high (m c.at.result) (m c.at-2.result) (m c.by_ends.result)
    is_low is_high c.at.ensures c.at-2.ensures
    (c.by_ends.ensures (to_end_size K X row sheets s.across.piece false s.own.low s.own.high s.across.high s.across.low low wr wa is_low)
    (to_end_size K X row sheets s.across.piece false s.own.high s.own.low s.across.low s.across.high high wr wa is_high) low_on high_on)
