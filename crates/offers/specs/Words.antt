-- What a word is read as, as a number, as cents, as tonnes and as a pair.
-- Assumes nothing.
use Rattle.std.specs.Prelude.{◌≡◌, ℕ, ◌<◌, T, cond, ◌⊎◌, List, length, slice_index, ◌++◌, ◌∷◌, ◌≢◌, ℤ, pos, negsuc, FitsSigned, nat_le, Option, Some, None}
use Rattle.std.specs.Int.{w64}
use Rattle.std.specs.Str.Parse.{IsNumeral, starts_with_minus, without_leading_sign, signed_digits_value}
use Rattle.rates.specs.Meanings.{load_of}
use Rattle.rates.specs.declared.cents.Cents.{Cents}
use Rattle.rates.specs.declared.cents.Cents.TheVariants.{None as NoCents, Whole}
use Rattle.rates.specs.declared.pair.Pair.{Pair}
use Rattle.rates.specs.declared.tonnes.Tonnes.{Tonnes}
use Rattle.rates.specs.Loads.{Load, tonnes_kind, most_tonnes}
use Rattle.rates.specs.Loads.Load.{up_to}

-- a word is a decimal numeral, with or without a sign, that fits 64 bits
pub record Number (word : List ℕ) : Type 0 where
  pub numeral : IsNumeral 10 (without_leading_sign word)
  pub fits : FitsSigned w64 (signed_digits_value 10 word)

-- the number that it writes
abbrev pub number : List ℕ → ℤ
number word = signed_digits_value 10 word

-- a number is read as the load of so many tonnes, or as none where there is no such load
abbrev pub LoadOf : ℤ → Load → Type 0
LoadOf (pos n) l = ((h : T (nat_le n most_tonnes)) → l ≡ up_to (record { value = n; passes = h })) × (most_tonnes < n → l ≡ tonnes_kind.none)
LoadOf (negsuc n) l = l ≡ tonnes_kind.none

-- the end of the range of 64 bits on the side of the word's sign
abbrev pub end_of_range : List ℕ → ℤ
end_of_range word = cond (starts_with_minus word) (negsuc 9223372036854775807) (pos 9223372036854775807)

-- What a word is read as: the number that it writes; a word that writes none that fits 64 bits is read as the end of their
-- range, or as nothing, and as nothing only if it is no numeral.
abbrev pub ReadAs : List ℕ → Option ℤ → Type 0
ReadAs word None = IsNumeral 10 (without_leading_sign word) → ⊥
ReadAs word (Some z) = (Number word × (z ≡ number word)) ⊎ ((Number word → ⊥) × (z ≡ end_of_range word))

abbrev pub CentsRead : List ℕ → Option Cents → Type 0
CentsRead word None = ReadAs word None
CentsRead word (Some NoCents) = ⊥
CentsRead word (Some (Whole z)) = ReadAs word (Some z)

-- a number of tonnes that there is no such load of is read as none
abbrev pub TonnesRead : List ℕ → Option Tonnes → Type 0
TonnesRead word None = ReadAs word None
TonnesRead word (Some t) = (z : ℤ) × ReadAs word (Some z) × LoadOf z (load_of t)

-- the slash of a pair
abbrev pub slash : ℕ
slash = 47

abbrev pub NoSlash : List ℕ → Type 0
NoSlash word = (k : ℕ) → k < length word → slice_index word k ≢ slash

-- what stands before the first slash of a word, and what behind it
pub record Parted (word before behind : List ℕ) : Type 0 where
  pub whole : word ≡ before ++ (slash ∷ behind)
  pub first : NoSlash before

module _ {A B : Type 0} (ReadsA : List ℕ → Option A → Type 0) (ReadsB : List ℕ → Option B → Type 0) where
  -- a pair is read from the words before and behind the first slash
  abbrev pub PairRead : List ℕ → Option (Pair A B) → Type 0
  PairRead word None = NoSlash word ⊎ ((before : List ℕ) × (behind : List ℕ) × Parted word before behind × (ReadsA before None ⊎ ReadsB behind None))
  PairRead word (Some p) = (before : List ℕ) × (behind : List ℕ) × Parted word before behind × ReadsA before (Some p.first) × ReadsB behind (Some p.second)
