use Rattle.std.proofs.Common.{take, string_bytes}
use Rattle.slow_quotes.specs.Networks.{network_of}
use Rattle.slow_quotes.specs.Quotes.{QuotedUpTo}
use Rattle.slow_quotes.proofs.quotes.quoted.Given as goal

abbrev pub invariant-loop-line : goal.invariant-loop-line
invariant-loop-line g l =
    QuotedUpTo g.R.Rate.kind g.R.Rate.means g.R.Written.reads g.R.Written.text (take l.line-index l.lines) (network_of g.R.Rate.kind g.R.Rate.means l.net) (string_bytes l.text)
