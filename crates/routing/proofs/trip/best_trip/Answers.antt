use Rattle.std.proofs.Common.{◌≡◌, length, take, drop, refl, subst, arith}
use Rattle.std.proofs.lemmas.Bool.{both_ways}
use Rattle.std.proofs.lemmas.List.{length-take-le}
use Rattle.trips.specs.Trips.{BestRate}
use Rattle.routing.proofs.OnTheWay.{written_in_front}
use Rattle.routing.proofs.trip.best_trip.Goals as goal

pub returns-then-is_none-clause-found : goal.returns-then-is_none-clause-found
returns-then-is_none-clause-found g c n m is o below to_below room long = record {
  rate_is_best = subst (BestRate g.R.Rate.kind m c.args.from c.args.to) (c.is_none.ensures.0 c.if-is_none.true) (c.best_rate-rate.ensures n m o below to_below);
  no_trip = λ _. refl;
  trip_written = λ some. absurd (some refl);
}

pub returns-in_err-count-clause-found : goal.returns-in_err-count-clause-found
returns-in_err-count-clause-found g c n m is o below to_below room long =
    let front : length (take c.args.areas.n c.args.stops.now) ≡ c.args.areas.n = length-take-le c.args.areas.n c.args.stops.now (omega arith) in
    absurd (c.in_err-count.ensures n m (g.R.Rate.means c.best_rate-rate.result) is o below to_below (omega arith) (omega (arith, front))
    (c.best_rate-rate.ensures n m o below to_below) (λ z. both_ways c.is_none.result c.if-is_none.false (c.is_none.ensures.1 z)))

pub returns-clause-found : goal.returns-clause-found
returns-clause-found g c n m is o below to_below room long =
    let xs = c.args.stops.now in
    let n₀ = c.args.areas.n in
    let rate = g.R.Rate.means c.best_rate-rate.result in
    let best = c.best_rate-rate.ensures n m o below to_below in
    let some : rate ≡ g.R.Rate.kind.none → ⊥ = λ z. both_ways c.is_none.result c.if-is_none.false (c.is_none.ensures.1 z) in
    let front : length (take n₀ xs) ≡ n₀ = length-take-le n₀ xs (omega arith) in
    let written = c.in_ok-count.ensures n m rate is o below to_below (omega arith) (omega (arith, front)) best some in (
      record {
        rate_is_best = best;
        no_trip = λ z. absurd (some z);
        trip_written = λ _. written_in_front g.R.Rate.kind m c.args.from c.args.to rate _ (drop n₀ xs) _ written;
      },
      some,
    )
