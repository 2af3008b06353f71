use Rattle.std.proofs.Common.{◌≡◌, map, length, take, drop, ◌++◌, sym, ◌∙◌, subst, arith}
use Rattle.trips.specs.Trips.{NoEarning, changed}
use Rattle.trips.proofs.Shown.{shutting_never_earns}
use Rattle.slow.specs.Areas.{LaneSet, Settled, AreasRefused, lane_map}
use Rattle.slow_quotes.specs.Networks.{InOrder}
use Rattle.slow_quotes.proofs.Keeping.{written_back, filled_from, set_in_order, set_not_refused}
use Rattle.slow_quotes.proofs.held.Held.shut.Given.{Over}
use Rattle.slow_quotes.proofs.held.Held.shut.Goals.{After-from_residual-in_err-best_rates}
use Rattle.slow_quotes.proofs.held.Held.shut.Goals as goal

-- after a lane was taken away, the table is filled
no_refusal : (g : Over) → After-from_residual-in_err-best_rates g → ⊥
no_refusal g c =
    let K = g.R.Rate.kind in
    let X = g.met.R.Rate.laws in
    let m = g.R.Rate.means in
    let n = c.self.inside.n in
    let lanes = c.self.inside.lanes.items in
    let table = c.self.inside.table.items in
    let from = c.args.ends.from in
    let to = c.args.ends.to in
    let rate = m c.none.result in
    let new = c.set_lane.new.lanes in
    let why = c.in_err-best_rates.field-0.0 in
    let lanes_are : take c.self.inside.lanes.len (new ++ drop (length new) lanes) ≡ new =
    written_back c.self.inside.lanes.len new (drop (length new) lanes) (omega (arith, c.set_lane.auto.lanes)) in
    let s = subst (λ list. LaneSet K m n list new from to rate) c.as_mut_slice.ensures.value c.in_ok-set_lane.ensures in
    let refused = subst (λ list. AreasRefused K n (map m list) (length table) why) (c.as_slice.ensures.value ∙ lanes_are)
    (subst (λ list. AreasRefused K n (map m c.as_slice.result.now) (length list) why) c.as_mut_slice-2.ensures.value c.in_err-best_rates.ensures.1) in
    set_not_refused K X m n lanes table c.self.invariant new from to rate s why refused

pub invariant_of-self-in_err-best_rates : goal.invariant_of-self-in_err-best_rates
invariant_of-self-in_err-best_rates g c = absurd (no_refusal g c)

pub returns-in_err-best_rates : goal.returns-in_err-best_rates
returns-in_err-best_rates g c = absurd (no_refusal g c)

pub invariant_of-self-2 : goal.invariant_of-self-2
invariant_of-self-2 g c =
    let K = g.R.Rate.kind in
    let X = g.met.R.Rate.laws in
    let m = g.R.Rate.means in
    let n = c.self.inside.n in
    let lanes = c.self.inside.lanes.items in
    let table = c.self.inside.table.items in
    let from = c.args.ends.from in
    let to = c.args.ends.to in
    let new = c.set_lane.new.lanes in
    let filled = c.best_rates.new.table in
    let earns = c.in_ok-best_rates.field-0 in
    let lanes_are : take c.self.inside.lanes.len (new ++ drop (length new) lanes) ≡ new =
    written_back c.self.inside.lanes.len new (drop (length new) lanes) (omega (arith, c.set_lane.auto.lanes)) in
    let table_is : take c.self.inside.table.len (filled ++ drop (length filled) table) ≡ filled =
    written_back c.self.inside.table.len filled (drop (length filled) table) (omega (arith, c.best_rates.auto.table)) in
    let given = subst (λ list. LaneSet K m n list new from to (m c.none.result)) c.as_mut_slice.ensures.value c.in_ok-set_lane.ensures in
    let s = subst (LaneSet K m n lanes new from to) c.none.ensures given in
    let none : NoEarning K (changed K (lane_map K n (map m lanes)) from to K.none) =
    shutting_never_earns K X (lane_map K n (map m lanes)) (filled_from K c.self.invariant s.in_area.few).none_earns from to in
    let settled = subst (λ list. Settled K n (map m list) (map m filled) earns) (c.as_slice.ensures.value ∙ lanes_are) c.in_ok-best_rates.ensures.1 in
    let long : length filled ≡ length table = omega (arith, c.best_rates.auto.table) in
    subst (λ list. InOrder K n (map m list) (map m (take c.self.inside.table.len (filled ++ drop (length filled) table)))) (sym lanes_are)
    (subst (λ list. InOrder K n (map m new) (map m list)) (sym table_is)
    (set_in_order K X m n lanes table c.self.invariant new filled from to K.none earns none s long settled))
