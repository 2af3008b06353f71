-- Which member a value of cents or of tonnes means.
-- Assumes nothing.
use Rattle.rates.specs.Amounts.{Amount}
use Rattle.rates.specs.Amounts.Amount.{no_amount, whole}
use Rattle.rates.specs.Loads.{Load}
use Rattle.rates.specs.Loads.Load.{up_to, unlimited}
use Rattle.rates.specs.declared.cents.Cents.{Cents}
use Rattle.rates.specs.declared.cents.Cents.TheVariants.{None, Whole}
use Rattle.rates.specs.declared.tonnes.Tonnes.{Tonnes}
use Rattle.rates.specs.declared.tonnes.Tonnes.TheVariants.{UpTo, Unlimited}

abbrev pub amount_of : Cents → Amount
amount_of None = no_amount
amount_of (Whole z) = whole z

abbrev pub load_of : Tonnes → Load
load_of (UpTo c) = up_to (record { value = c.tonnes; passes = c.within })
load_of Unlimited = unlimited
