-- What is printed of a refusal.
-- Assumes nothing.
use Rattle.std.specs.Prelude.{ℕ, List, codes}
use Rattle.slow.specs.declared.refusal.Refusal.{Refusal}
use Rattle.slow.specs.declared.refusal.Refusal.TheVariants.{NoTerminals, TooManyTerminals, WrongLength, NoRate, NoTerminal, NoLaneRate}

abbrev pub refusal_text : Refusal → List ℕ
refusal_text NoTerminals = codes "no terminals"
refusal_text TooManyTerminals = codes "too many terminals: 64 at most"
refusal_text WrongLength = codes "an area of the wrong length"
refusal_text (NoRate k) = codes "a place that holds no rate"
refusal_text NoTerminal = codes "no such terminal"
refusal_text NoLaneRate = codes "no lane rate of this kind"
