use Rattle.std.proofs.Common.{◌-◌, List, ℕ, ◌≤◌, length, cond, filter, sum_by, ap, ◌∙◌, length-take, rules, tests, arith}
use Rattle.std.proofs.lemmas.Iterator.{YieldsList-from_slice, YieldsList-from_map}
use Rattle.std.proofs.lemmas.Iterator.Adapters.{fits_from_length, at_most_from_yields_List}
use Rattle.std.proofs.lemmas.Iterator.Consumers.{YieldsList-at, YieldsList-from_filter, sum_by_from_yields_List}
use Rattle.pieces.specs.Sides.{lengths, within}
use Rattle.cutting.proofs.Mirrors.{sum_by-filter, length-filter-le}
use Rattle.cutting.proofs.weights.triangles_in_holes.Goals as goal

pub sum-requires-clause-fits : goal.sum-requires-clause-fits
sum-requires-clause-fits c =
    let hs = c.as_slice.result.now in
    let few : length (filter (within (lengths c.args.sides.now) c.args.v) hs) ≤ 8 =
    let all = length-filter-le (within (lengths c.args.sides.now) c.args.v) hs in
    let taken = length-take c.args.holes.count c.args.holes.at in
    omega (arith, ap length c.as_slice.ensures) in
    fits_from_length _ _ 8 _
    (at_most_from_yields_List
    (YieldsList-at c.map.ensures.source
    (YieldsList-from_filter _ (within (lengths c.args.sides.now) c.args.v) (YieldsList-from_slice hs cc) c.filter.ensures.closure (λ x r q k. search (rules, tests))))
    few)
    c.map.ensures.closure (omega arith) (λ x r q k. search (rules, tests))

pub returns : goal.returns
returns c =
    let len = lengths c.args.sides.now in
    let w : ℕ → ℕ = λ h. len h - 1 in
    sum_by_from_yields_List w (filter (within len c.args.v) c.as_slice.result.now) c.map.result _ c.sum.ensures.ran
    (YieldsList-from_map _ w
    (YieldsList-at c.map.ensures.source
    (YieldsList-from_filter _ (within len c.args.v) (YieldsList-from_slice c.as_slice.result.now cc) c.filter.ensures.closure (λ x r q k. search (rules, tests))))
    c.map.ensures.closure (λ x r q k. search (rules, tests)))
    ∙ sum_by-filter w (within len c.args.v) c.as_slice.result.now
    ∙ ap (λ (hs : List ℕ). sum_by (λ h. cond (within len c.args.v h) (w h) 0) hs) c.as_slice.ensures
