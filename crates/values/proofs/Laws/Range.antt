-- The library's test that a number lies in a range of numbers, as the specification tests it. Assumes nothing.
use Rattle.std.proofs.Common.{◌≡◌, refl, ℤ, ◌&&◌}
use Rattle.std.specs.Int.Signed.{le_z}
use Rattle.std.specs.Ordering.{int_cmp, is_le}
use native.Mathlib.Omega.{arith}
use Rattle.specification.specs.Number.{in32, least, greatest}

le_tested : (a b : ℤ) → is_le (int_cmp a b) ≡ le_z a b
le_tested a b = grind arith

pub contains-read : (z : ℤ) → is_le (int_cmp least z) && is_le (int_cmp z greatest) ≡ in32 z
contains-read z = rw (le_tested least z, le_tested z greatest) refl
