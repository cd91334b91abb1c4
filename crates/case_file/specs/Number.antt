-- Decimal numbers of the files of cases. Assumes nothing.
use Rattle.std.specs.Prelude.{ℕ, ◌+◌, ◌*◌, ◌-◌, min, nat_lt, nat_le, ◌&&◌, if◌then◌else◌}

-- the value of a digit, and 0 of any other byte
abbrev pub value_of : ℕ → ℕ
value_of digit = if nat_le 48 digit && nat_lt digit 58 then digit - 48 else 0

-- the number with a digit more, and no more than 32 bits hold
abbrev pub grown : ℕ → ℕ → ℕ
grown number digit = min (min (number * 10) 4294967295 + value_of digit) 4294967295
