use Rattle.std.proofs.Common.{string_bytes, refl, subst}
use Rattle.std.proofs.lemmas.List.{take_all}
use Rattle.slow_quotes.specs.Networks.{network_of}
use Rattle.slow_quotes.specs.Quotes.{QuotedUpTo}
use Rattle.slow_quotes.proofs.Telling.{quoted_more, quoted_earns_not}
use Rattle.slow_quotes.proofs.quotes.quoted.Goals as goal

pub loop-line-init : goal.loop-line-init
loop-line-init g c = record {
  first = network_of g.R.Rate.kind g.R.Rate.means c.new-net.result;
  begins = c.new-net.ensures;
  answered = (refl, c.new-text.ensures.bytes);
}

pub loop-line-preserved : goal.loop-line-preserved
loop-line-preserved g c =
    let K = g.R.Rate.kind in
    let m = g.R.Rate.means in
    quoted_more K m g.R.Written.reads g.R.Written.text c.args.lines.now c.loop-line.line-index c.line-item.result
    (network_of K m c.loop-line.net) (network_of K m c.said.new.net) (string_bytes c.loop-line.text) (string_bytes c.in_ok-said.field-0)
    c.as_str.result.now (string_bytes c.push_str.new.self)
    c.loop-line-test.true c.line-item.is c.loop-line.invariant c.in_ok-said.ensures
    c.in_ok-push_str.ensures.bytes c.as_str.ensures.value

pub returns : goal.returns
returns g c =
    let K = g.R.Rate.kind in
    let m = g.R.Rate.means in
    let last = network_of K m c.loop-line.net in
    let up_to = subst (λ lines. QuotedUpTo K m g.R.Written.reads g.R.Written.text lines last (string_bytes c.loop-line.text))
    (take_all c.loop-line.line-index c.args.lines.now c.loop-line-test.false) c.loop-line.invariant in
    record {
      last = last;
      up_to = up_to;
      none_earns = quoted_earns_not K m g.R.Written.reads g.R.Written.text g.met.R.Rate.laws c.args.lines.now last (string_bytes c.loop-line.text) up_to;
    }
