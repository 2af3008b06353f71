use Rattle.std.proofs.Common.{ℕ, min, ◌&&◌, eqb, length, ap, ◌∙◌, arith}
use Rattle.std.proofs.lemmas.Bool.{and_parts, and_from, eqb-true, eq-eqb, both_ways}
use Rattle.ring.specs.Areas.{side_at}
use Rattle.ring.proofs.Searches.{found_side, finds_no_side}
use Rattle.ring.proofs.find.find_side.Goals as goal

pub returns-then-side-low : goal.returns-then-side-low
returns-then-side-low c =
    let s = side_at c.args.sides.now c.first_not_before-place.result in
    let p = and_parts (eqb s.low c.low-low.result) (eqb s.high c.high-high.result) c.if-side-low.true in
    found_side c.args.n c.args.sides.now c.args.a c.args.b c.low-low.result c.high-high.result c.min-count.result c.first_not_before-place.result
    c.low-low.ensures c.high-high.ensures (c.min-count.ensures ∙ ap (λ (z : ℕ). min z (length c.args.sides.now)) c.side_count.ensures) c.first_not_before-place.ensures
    c.if-place-count.true (eqb-true s.low c.low-low.result p.0) (eqb-true s.high c.high-high.result p.1)

pub returns-else-side-low : goal.returns-else-side-low
returns-else-side-low c =
    let s = side_at c.args.sides.now c.first_not_before-place.result in
    finds_no_side c.args.n c.args.sides.now c.args.a c.args.b c.low-low.result c.high-high.result c.min-count.result c.first_not_before-place.result
    c.low-low.ensures c.high-high.ensures (c.min-count.ensures ∙ ap (λ (z : ℕ). min z (length c.args.sides.now)) c.side_count.ensures) c.first_not_before-place.ensures
    (λ h p q. both_ways (eqb s.low c.low-low.result && eqb s.high c.high-high.result) c.if-side-low.false
    (and_from (eqb s.low c.low-low.result) (eqb s.high c.high-high.result) (eq-eqb s.low c.low-low.result p) (eq-eqb s.high c.high-high.result q)))

pub returns-else-place-count : goal.returns-else-place-count
returns-else-place-count c =
    finds_no_side c.args.n c.args.sides.now c.args.a c.args.b c.low-low.result c.high-high.result c.min-count.result c.first_not_before-place.result
    c.low-low.ensures c.high-high.ensures (c.min-count.ensures ∙ ap (λ (z : ℕ). min z (length c.args.sides.now)) c.side_count.ensures) c.first_not_before-place.ensures
    (λ h p q. let l = c.if-place-count.false in omega arith)
