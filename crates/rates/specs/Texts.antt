-- The text of a rate.
-- Assumes nothing.
use Rattle.std.specs.Prelude.{◌≡◌, ℕ, List, ◌++◌, Option, Some, None, codes, decimal}
use Rattle.std.proofs.Common.{ap, ◌∙◌}
use Rattle.std.specs.Fmt.{signed_decimal}
use Rattle.rates.specs.declared.cents.Cents.{Cents}
use Rattle.rates.specs.declared.cents.Cents.TheVariants.{None as NoCents, Whole}
use Rattle.rates.specs.declared.tonnes.Tonnes.{Tonnes}
use Rattle.rates.specs.declared.tonnes.Tonnes.TheVariants.{UpTo, Unlimited}

abbrev pub cents_text : Cents → List ℕ
cents_text NoCents = codes "none"
cents_text (Whole z) = signed_decimal z

abbrev pub tonnes_text : Tonnes → List ℕ
tonnes_text Unlimited = codes "unlimited"
tonnes_text (UpTo c) = decimal c.tonnes

-- the text of a pair's first part, a comma, and the text of its second
abbrev pub joined_text : List ℕ → List ℕ → List ℕ
joined_text first second = first ++ (codes ", " ++ second)

abbrev pub joined_texts : Option (List ℕ) → Option (List ℕ) → Option (List ℕ)
joined_texts (Some first) (Some second) = Some (joined_text first second)
joined_texts None second = None
joined_texts (Some first) None = None

-- where both parts have a text, so has the pair
pub parts_printed : {a b : Option (List ℕ)} {first second : List ℕ} → a ≡ Some first → b ≡ Some second → joined_texts a b ≡ Some (joined_text first second)
parts_printed {a} {b} {first} {second} e f = ap (λ x. joined_texts x b) e ∙ ap (joined_texts (Some first)) f
