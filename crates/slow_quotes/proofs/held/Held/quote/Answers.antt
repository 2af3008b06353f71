use Rattle.std.proofs.Common.{◌≡◌, map, length, refl, sym, subst}
use Rattle.trips.specs.Trips.{BestRate}
use Rattle.slow.specs.Areas.{InArea, entry, lane_map}
use Rattle.slow_quotes.specs.Networks.{Within, network_of}
use Rattle.slow_quotes.proofs.Keeping.{pair_within, filled_from}
use Rattle.slow_quotes.proofs.held.Held.quote.Goals as goal

pub returns : goal.returns
returns g c =
    let K = g.R.Rate.kind in
    let m = g.R.Rate.means in
    let n = c.self.inside.n in
    let lanes = c.self.inside.lanes.items in
    let table = c.self.inside.table.items in
    let from = c.args.ends.from in
    let to = c.args.ends.to in
    let rate = m c.in_ok-rate.rate in
    let h = subst (λ list. InArea n (length list) from to × (rate ≡ entry K n (map m list) from to)) c.as_slice.ensures.value c.in_ok-rate.ensures in
    let best = subst (BestRate K (lane_map K n (map m lanes)) from to) (sym h.1) ((filled_from K c.self.invariant h.0.few).best from to h.0.from_below h.0.to_below) in (
      subst (λ held. Within (network_of K m held) from to) c.self.view_is (pair_within n (length table) from to h.0),
      refl,
      subst (λ held. BestRate K (network_of K m held).lanes from to rate) c.self.view_is best,
    )
