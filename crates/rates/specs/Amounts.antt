-- Cents: a whole number or none, joined by sum, less is better.
-- Assumes nothing.
use Rattle.std.specs.Prelude.{ℕ, Bool, true, false, ◌&&◌, ℤ, pos, negsuc, ◌+ℤ◌, int_le, int_lt, unsigned_abs}
use Rattle.std.specs.Int.{saturate_to_bits}
use Rattle.rates.specs.Kinds.{Kind}

pub data Amount : Type 0 where
  no_amount : Amount
  whole : ℤ → Amount

abbrev pub sum : Amount → Amount → Amount
sum no_amount b = no_amount
sum (whole x) no_amount = no_amount
sum (whole x) (whole y) = whole (x +ℤ y)

abbrev pub less : Amount → Amount → Bool
less no_amount b = false
less (whole x) no_amount = true
less (whole x) (whole y) = int_lt x y

-- the absolute value
abbrev pub magnitude : Amount → ℕ
magnitude no_amount = 0
magnitude (whole x) = unsigned_abs x

abbrev pub is_lane_amount : Amount → Bool
is_lane_amount no_amount = false
is_lane_amount (whole x) = int_le (negsuc 999999999) x && int_le x (pos 1000000000)

abbrev pub cents_kind : Kind Amount
cents_kind = record {
  still = whole (pos 0);
  none = no_amount;
  join = sum;
  better = less;
  size = magnitude;
  lane = is_lane_amount;
  limit = 1000000000;
}

-- An amount as a value of 64 bits holds it: one past either end of their range becomes that end.
abbrev pub held : Amount → Amount
held no_amount = no_amount
held (whole x) = whole (saturate_to_bits 63 x)
