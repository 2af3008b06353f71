use Rattle.std.proofs.Common.{map, length, sym, ◌∙◌, arith}
use Rattle.std.proofs.lemmas.List.{length-map}
use Rattle.std.proofs.lemmas.Bool.{eqb-false, eqb-true}
use Rattle.offers.specs.Offers.{Offer}
use Rattle.offers.proofs.Pricing.{offer_is_exact}
use Rattle.offers.proofs.offer.price.Goals as goal

pub returns-in-None : goal.returns-in-None
returns-in-None g c =
    let K = g.R.Rate.kind in
    let lanes = map g.R.Rate.means c.args.lanes.now in
    let n = length-map c.args.lanes.now g.R.Rate.means in
    let o : Offer K lanes = record {
      some = omega (arith, n, eqb-false (length c.args.lanes.now) 0 (sym c.if-is_empty.ensures));
      not_too_many = omega (arith, n);
      lane_rates = c.in-None.ensures;
    } in
    (o, c.join_all.ensures (offer_is_exact K g.met.R.Rate.laws lanes o))

pub returns-then-is_empty : goal.returns-then-is_empty
returns-then-is_empty g c =
    length-map c.args.lanes.now g.R.Rate.means ∙ eqb-true (length c.args.lanes.now) 0 (sym c.if-is_empty.ensures)

pub returns-then-lanes-gt-MOST_LANES : goal.returns-then-lanes-gt-MOST_LANES
returns-then-lanes-gt-MOST_LANES g c = omega (arith, length-map c.args.lanes.now g.R.Rate.means)

pub returns-in-Some : goal.returns-in-Some
returns-in-Some g c =
    let n = length-map c.args.lanes.now g.R.Rate.means in (
      omega (arith, n, eqb-false (length c.args.lanes.now) 0 (sym c.if-is_empty.ensures)),
      omega (arith, n),
      c.in-Some.ensures,
    )
