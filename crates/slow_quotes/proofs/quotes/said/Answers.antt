use Rattle.std.proofs.Common.{◌≡◌, Ok, Err, Some, string_bytes, subst}
use Rattle.slow_quotes.specs.Networks.{network_of}
use Rattle.slow_quotes.specs.Orders.{OrderIs}
use Rattle.slow_quotes.proofs.Telling.{order_answered}
use Rattle.slow_quotes.proofs.quotes.said.Goals as goal

pub returns-in-Ok-Some : goal.returns-in-Ok-Some
returns-in-Ok-Some g c =
    let K = g.R.Rate.kind in
    let m = g.R.Rate.means in
    let e : c.in_ok-quotation.field-0 ≡ Ok (Some c.in-Ok-Some.quotation) = cc in
    order_answered K m g.R.Written.reads g.R.Written.text (network_of K m c.args.net.now) (network_of K m c.carry_out.new.self) c.args.line.now c.in-Some.order
    c.in_ok-quotation.field-0 (Ok (Some c.in-Ok-Some.quotation)) string_bytes c.quotation_text.result
    (subst (λ s. OrderIs g.R.Written.reads s (Some c.in-Some.order)) c.as_str.ensures.value c.in-Some.ensures)
    c.in_ok-quotation.ensures e c.quotation_text.ensures

pub returns-in-Err : goal.returns-in-Err
returns-in-Err g c =
    let K = g.R.Rate.kind in
    let m = g.R.Rate.means in
    let e : c.in_ok-quotation.field-0 ≡ Err c.in-Err.fault = cc in
    order_answered K m g.R.Written.reads g.R.Written.text (network_of K m c.args.net.now) (network_of K m c.carry_out.new.self) c.args.line.now c.in-Some.order
    c.in_ok-quotation.field-0 (Err c.in-Err.fault) string_bytes c.fault_text-in-Err.result
    (subst (λ s. OrderIs g.R.Written.reads s (Some c.in-Some.order)) c.as_str.ensures.value c.in-Some.ensures)
    c.in_ok-quotation.ensures e c.fault_text-in-Err.ensures
