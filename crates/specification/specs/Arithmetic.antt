-- The arithmetic that both readings of a sheet share: mathematical integers, each operation exact and then held to 32 bits. Division is
-- toward zero (`quot_z`) or rounds down (`floor_z`). Assumes nothing.
use Rattle.std.specs.Prelude.{ℕ, zero, suc, ◌+◌, ◌-◌, ◌/◌, Bool, false, not, eqb, ℤ, pos, negsuc, ◌+ℤ◌, ◌-ℤ◌, ◌*ℤ◌}
use Rattle.std.specs.Int.Signed.{lt_z, le_z, quot_z}
use Rattle.specification.specs.Bytes.{pick}
use Rattle.specification.specs.Number.{in32}
use Rattle.specification.specs.Ast.{Op, add, sub, mul, quo, rem, div, modulo, Rel, ne, lt, le, gt, ge}

-- ---- error kinds

abbrev pub no_value : ℕ
no_value = 1

abbrev pub outside32 : ℕ
outside32 = 2

abbrev pub zero_divisor : ℕ
zero_divisor = 3

abbrev pub outside_array : ℕ
outside_array = 4

abbrev pub undecided_inside : ℕ
undecided_inside = 6

-- ---- operations

-- a value, or an error kind
pub data Computed : Type 0 where
  value : ℤ → Computed
  fault : ℕ → Computed

unfoldable pub fit : ℤ → Computed
fit z = pick (in32 z) (value z) (fault outside32)

-- zero divides nothing
abbrev pub divided : ℤ → Computed → Computed
divided (pos zero) c = fault zero_divisor
divided (pos (suc n)) c = c
divided (negsuc n) c = c

-- the quotient rounded down: -(n + 1) by b is -(n / b) - 1. Of the divisor 0 nothing is asked
abbrev pub floor_z : ℤ → ℤ → ℤ
floor_z (pos a) (pos b) = pos (a / b)
floor_z (pos zero) (negsuc b) = pos zero
floor_z (pos (suc a)) (negsuc b) = negsuc (a / suc b)
floor_z (negsuc a) (pos b) = negsuc (a / b)
floor_z (negsuc a) (negsuc b) = pos (suc a / suc b)

-- what a quotient leaves of x by y
abbrev pub remains : ℤ → ℤ → ℤ → ℤ
remains x y q = x -ℤ y *ℤ q

-- an operation; which word means it is the edition's to say (Words)
unfoldable pub compute : Op → ℤ → ℤ → Computed
compute add x y = fit (x +ℤ y)
compute sub x y = fit (x -ℤ y)
compute mul x y = fit (x *ℤ y)
compute quo x y = divided y (fit (quot_z x y))
compute rem x y = divided y (fit (remains x y (quot_z x y)))
compute div x y = divided y (fit (floor_z x y))
compute modulo x y = divided y (fit (remains x y (floor_z x y)))

-- ---- comparisons

abbrev pub eq_z : ℤ → ℤ → Bool
eq_z (pos a) (pos b) = eqb a b
eq_z (pos a) (negsuc b) = false
eq_z (negsuc a) (pos b) = false
eq_z (negsuc a) (negsuc b) = eqb a b

unfoldable pub test : Rel → ℤ → ℤ → Bool
test ne x y = not (eq_z x y)
test lt x y = lt_z x y
test le x y = le_z x y
test gt x y = lt_z y x
test ge x y = le_z y x

-- how many integers there are from the first to the second, both included
abbrev pub count : ℤ → ℤ → ℕ
count (pos a) (pos b) = suc b - a
count (pos a) (negsuc b) = 0
count (negsuc a) (pos b) = suc a + suc b
count (negsuc a) (negsuc b) = suc a - b
