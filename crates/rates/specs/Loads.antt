-- Tonnes: how much can be carried, 0 to 1,000,000,000 or unlimited; the lesser joined, more is better.
-- Assumes nothing.
use Rattle.std.specs.Prelude.{ℕ, Bool, true, false, cond, nat_le, nat_lt}
use Rattle.rates.specs.Kinds.{Kind, Such}

-- the most tonnes that a limited load has
abbrev pub most_tonnes : ℕ
most_tonnes = 1000000000

abbrev pub Limited : Type 0
Limited = Such (λ n. nat_le n most_tonnes)

pub data Load : Type 0 where
  up_to : Limited → Load
  unlimited : Load

abbrev pub lesser : Load → Load → Load
lesser unlimited b = b
lesser (up_to m) unlimited = up_to m
lesser (up_to m) (up_to n) = cond (nat_lt n.value m.value) (up_to n) (up_to m)

abbrev pub more : Load → Load → Bool
more a unlimited = false
more unlimited (up_to n) = true
more (up_to m) (up_to n) = nat_lt n.value m.value

abbrev pub is_lane_load : Load → Bool
is_lane_load unlimited = false
is_lane_load (up_to n) = nat_lt 0 n.value

abbrev pub tonnes_kind : Kind Load
tonnes_kind = record {
  still = unlimited;
  none = up_to (record { value = 0; passes = tt });
  join = lesser;
  better = more;
  size = λ _. 0;
  lane = is_lane_load;
  limit = 0;
}
