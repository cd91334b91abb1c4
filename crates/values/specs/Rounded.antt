-- Rounding down on 64 bits, as the code does it. Assumes nothing.
use Rattle.std.specs.Prelude.{zero, suc, Bool, false, ℤ, pos, negsuc}
use Rattle.std.specs.Int.Signed.{lt_z}
use Rattle.specification.specs.Arithmetic.{floor_z, remains}
use Rattle.values.specs.declared.Divided.{Divided}

-- one is below 0 and the other above
abbrev pub opposite : ℤ → ℤ → Bool
opposite (pos zero) y = false
opposite (pos (suc n)) y = lt_z y (pos zero)
opposite (negsuc n) y = lt_z (pos zero) y

-- the quotient and what it leaves
abbrev pub rounded_down : ℤ → ℤ → Divided
rounded_down x y = record { quotient = floor_z x y; rest = remains x y (floor_z x y) }
