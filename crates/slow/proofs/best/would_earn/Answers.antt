use Rattle.std.proofs.Common.{◌≡◌, ◌+◌, ◌*◌, ◌≤◌, true, length, map, get_or, sym, refl, ◌∙◌, subst, arith}
use Rattle.rates.specs.Kinds.{exact_size}
use Rattle.slow.specs.Areas.{InArea}
use Rattle.slow.proofs.Answering.{tested}
use Rattle.slow.proofs.Places.{place_within, read_at}
use Rattle.slow.proofs.best.would_earn.Goals as goal

pub returns : goal.returns
returns g c =
    let K = g.R.Rate.kind in
    let X = g.met.R.Rate.laws in
    let m = g.R.Rate.means in
    let n = c.args.n in
    let from = c.args.ends.from in
    let to = c.args.ends.to in
    let rate = m c.args.rate in
    let table = c.args.table.now in
    let v = c.index-table-back.result in
    let b = c.in_ok-back.ensures in
    let h : InArea n (length table) from to =
    record { few = b.0.few; square = b.0.square; from_below = omega (arith, b.0.to_below); to_below = omega (arith, b.0.from_below) } in
    let place : c.in_ok-back.back ≡ n * to + from = b.1 ∙ cc in
    let back = read_at K m table (n * to + from) v (omega (arith, place_within n to from h.to_below h.from_below, h.square))
    (subst (λ place. v ≡ get_or table place v) place c.index-table-back.is) in
    let lane : K.lane rate ≡ true = sym c.is_lane_rate.ensures ∙ c.if-not-is_lane_rate.false in (
      h,
      lane,
      λ area. tested K X n area (map m table) from to h.from_below h.to_below rate (m c.join.result) K.still refl lane
          (subst (λ q. K.size rate + K.size q ≤ exact_size → m c.join.result ≡ K.join rate q) (sym back) c.join.ensures)
          c.beats_still.result c.beats_still.ensures,
    )
