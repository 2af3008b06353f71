use Rattle.std.proofs.Common.{length, rules, arith}
use borrow.Author.Tests.{tests}
use Rattle.std.proofs.lemmas.Iterator.{YieldsList-from_slice, IsFirst-from_position}
use Rattle.slow.specs.Areas.{LaneOrNone}
use Rattle.slow.proofs.Checking.{lanes_found, no_rate_found}
use Rattle.slow.proofs.rows.check_rates.Goals as goal

pub returns-in-Some : goal.returns-in-Some
returns-in-Some g c =
    let K = g.R.Rate.kind in
    let m = g.R.Rate.means in
    let vs = c.args.rates.now in
    let h = IsFirst-from_position _ _ _ (λ v. LaneOrNone K (m v) → ⊥) (λ v. LaneOrNone K (m v)) c.in-Some.ensures.ran (YieldsList-from_slice vs c.iter.ensures.rest) (λ x q k. search (rules, tests)) (λ x q k. search (rules, tests)) in
    no_rate_found K m vs c.in-Some.place h.0 h.1 h.2

pub returns-in-None : goal.returns-in-None
returns-in-None g c =
    let K = g.R.Rate.kind in
    let m = g.R.Rate.means in
    let vs = c.args.rates.now in
    let h = IsFirst-from_position _ _ _ (λ v. LaneOrNone K (m v) → ⊥) (λ v. LaneOrNone K (m v)) c.in-None.ensures.ran (YieldsList-from_slice vs c.iter.ensures.rest) (λ x q k. search (rules, tests)) (λ x q k. search (rules, tests)) in
    lanes_found K m vs (length vs) (omega arith) h
