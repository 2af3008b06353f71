-- What is printed of a fault.
-- Assumes nothing.
use Rattle.std.specs.Prelude.{ℕ, List, codes}
use Rattle.slow.specs.Refusals.{refusal_text}
use Rattle.slow_quotes.specs.declared.fault.Fault.{Fault}
use Rattle.slow_quotes.specs.declared.fault.Fault.TheVariants.{NoKind, NoOrder, SameTerminal, WouldEarn, Refused}

abbrev pub reason : Fault → List ℕ
reason NoKind = codes "no kind of rate is named yet"
reason NoOrder = codes "no order"
reason SameTerminal = codes "a lane leads to another terminal"
reason WouldEarn = codes "a closed trip would earn"
reason (Refused why) = refusal_text why
