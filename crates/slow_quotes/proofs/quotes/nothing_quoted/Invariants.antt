use Rattle.std.proofs.Common.{◌≡◌, take, string_bytes}
use Rattle.slow_quotes.specs.Quotes.{kindless_text}
use Rattle.slow_quotes.proofs.quotes.nothing_quoted.Given as goal

abbrev pub invariant-loop-line : goal.invariant-loop-line
invariant-loop-line l = string_bytes l.text ≡ kindless_text (take l.line-index l.lines)
