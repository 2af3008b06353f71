-- The value of a hexadecimal digit, in small letters, or 0.
-- Assumes nothing.
use Rattle.std.specs.Prelude.{ℕ, ◌-◌, cond, ◌&&◌, nat_le}

abbrev pub nibble_of : ℕ → ℕ
nibble_of b = cond (nat_le 48 b && nat_le b 57) (b - 48) (cond (nat_le 97 b && nat_le b 102) (b - 87) 0)
