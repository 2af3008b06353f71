use Rattle.std.proofs.Common.{◌≡◌, true, map, length, take, drop, ◌++◌, sym, refl, ◌∙◌, subst, arith}
use Rattle.trips.specs.Trips.{NoEarning, changed}
use Rattle.slow.specs.Areas.{InArea, Tested, LaneSet, Settled, lane_map}
use Rattle.slow_quotes.specs.Networks.{LaneFault, LaneFits, LaneChanged, InOrder, network_of, shown}
use Rattle.slow_quotes.specs.declared.fault.Fault.TheVariants.{WouldEarn}
use Rattle.slow_quotes.proofs.Keeping.{written_back, pair_within, set_in_order, lane_changed, tested_is}
use Rattle.slow_quotes.proofs.held.Held.post.Goals as goal

pub returns-then-branch : goal.returns-then-branch
returns-then-branch g c =
    let K = g.R.Rate.kind in
    let X = g.met.R.Rate.laws in
    let m = g.R.Rate.means in
    let n = c.self.inside.n in
    let lanes = c.self.inside.lanes.items in
    let table = c.self.inside.table.items in
    let from = c.args.ends.from in
    let to = c.args.ends.to in
    let rate = m c.args.rate in
    let t = subst (λ list. InArea n (length list) from to × (K.lane rate ≡ true) × Tested K n (map m list) from to rate c.in_ok-would_earn.field-0) c.as_slice.ensures.value c.in_ok-would_earn.ensures in
    let earns = (tested_is K X m n lanes table c.self.invariant from to rate c.in_ok-would_earn.field-0 t.0 t.2).0 c.if-branch.true in (
      subst (λ held. LaneFault K (network_of K m held) from to rate WouldEarn) c.self.view_is
          (c.if-ends.false, pair_within n (length table) from to t.0, t.1, earns),
      refl,
    )

pub invariant_of-self-2 : goal.invariant_of-self-2
invariant_of-self-2 g c =
    let K = g.R.Rate.kind in
    let X = g.met.R.Rate.laws in
    let m = g.R.Rate.means in
    let n = c.self.inside.n in
    let lanes = c.self.inside.lanes.items in
    let table = c.self.inside.table.items in
    let from = c.args.ends.from in
    let to = c.args.ends.to in
    let rate = m c.args.rate in
    let new = c.set_lane.new.lanes in
    let filled = c.best_rates.new.table in
    let earns = c.in_ok-best_rates.field-0 in
    let lanes_are : take c.self.inside.lanes.len (new ++ drop (length new) lanes) ≡ new =
    written_back c.self.inside.lanes.len new (drop (length new) lanes) (omega (arith, c.set_lane.auto.lanes)) in
    let table_is : take c.self.inside.table.len (filled ++ drop (length filled) table) ≡ filled =
    written_back c.self.inside.table.len filled (drop (length filled) table) (omega (arith, c.best_rates.auto.table)) in
    let t = subst (λ list. InArea n (length list) from to × (K.lane rate ≡ true) × Tested K n (map m list) from to rate c.in_ok-would_earn.field-0) c.as_slice.ensures.value c.in_ok-would_earn.ensures in
    let none : NoEarning K (changed K (lane_map K n (map m lanes)) from to rate) =
    (tested_is K X m n lanes table c.self.invariant from to rate c.in_ok-would_earn.field-0 t.0 t.2).1 c.if-branch.false in
    let s = subst (λ list. LaneSet K m n list new from to rate) c.as_mut_slice.ensures.value c.in_ok-set_lane.ensures in
    let settled = subst (λ list. Settled K n (map m list) (map m filled) earns) (c.as_slice-2.ensures.value ∙ lanes_are) c.in_ok-best_rates.ensures.1 in
    let long : length filled ≡ length table = omega (arith, c.best_rates.auto.table) in
    subst (λ list. InOrder K n (map m list) (map m (take c.self.inside.table.len (filled ++ drop (length filled) table)))) (sym lanes_are)
    (subst (λ list. InOrder K n (map m new) (map m list)) (sym table_is)
    (set_in_order K X m n lanes table c.self.invariant new filled from to rate earns none s long settled))

pub returns : goal.returns
returns g c =
    let K = g.R.Rate.kind in
    let X = g.met.R.Rate.laws in
    let m = g.R.Rate.means in
    let n = c.self.inside.n in
    let lanes = c.self.inside.lanes.items in
    let table = c.self.inside.table.items in
    let from = c.args.ends.from in
    let to = c.args.ends.to in
    let rate = m c.args.rate in
    let new = c.set_lane.new.lanes in
    let lanes_are : take c.self.inside.lanes.len (new ++ drop (length new) lanes) ≡ new =
    written_back c.self.inside.lanes.len new (drop (length new) lanes) (omega (arith, c.set_lane.auto.lanes)) in
    let t = subst (λ list. InArea n (length list) from to × (K.lane rate ≡ true) × Tested K n (map m list) from to rate c.in_ok-would_earn.field-0) c.as_slice.ensures.value c.in_ok-would_earn.ensures in
    let none : NoEarning K (changed K (lane_map K n (map m lanes)) from to rate) =
    (tested_is K X m n lanes table c.self.invariant from to rate c.in_ok-would_earn.field-0 t.0 t.2).1 c.if-branch.false in
    let s = subst (λ list. LaneSet K m n list new from to rate) c.as_mut_slice.ensures.value c.in_ok-set_lane.ensures in
    let fits : LaneFits K (shown K n (map m lanes)) from to rate =
    record { apart = c.if-ends.false; within = pair_within n (length table) from to t.0; lane_rate = t.1; none_earns = none } in (
      subst (λ held. LaneFits K (network_of K m held) from to rate) c.self.view_is fits,
      subst (λ list. LaneChanged K (network_of K m c.args.self.now) from to rate (shown K n (map m list))) (sym lanes_are)
          (subst (λ held. LaneChanged K (network_of K m held) from to rate (shown K n (map m new))) c.self.view_is
          (lane_changed K X m n lanes table c.self.invariant new from to rate s)),
    )
