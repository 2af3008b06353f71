use Rattle.std.proofs.Common.{◌++◌, string_bytes, ap, ◌∙◌}
use Rattle.std.proofs.lemmas.List.{take_all}
use Rattle.slow_quotes.specs.Quotes.{kindless_text}
use Rattle.slow_quotes.proofs.Telling.{kindless_more}
use Rattle.slow_quotes.proofs.quotes.nothing_quoted.Goals as goal

pub loop-line-preserved : goal.loop-line-preserved
loop-line-preserved c =
    kindless_more c.args.lines.now c.loop-line.line-index c.line-item.result (string_bytes c.loop-line.text) (string_bytes c.push_str.new.self)
    c.loop-line-test.true c.line-item.is c.loop-line.invariant
    (c.in_ok-push_str.ensures.bytes ∙ ap (λ b. string_bytes c.loop-line.text ++ b) (c.as_str.ensures.value ∙ c.in_ok-fault_text.ensures))

pub returns : goal.returns
returns c = c.loop-line.invariant ∙ ap kindless_text (take_all c.loop-line.line-index c.args.lines.now c.loop-line-test.false)
