-- Decimal numbers: the form that document 01 gives them, their values, and the digits that are written for a value.
-- Assumes nothing.
use Rattle.std.specs.Prelude.{ℕ, zero, suc, ◌+◌, ◌-◌, ◌*◌, ◌/◌, ◌%◌, Bool, true, false, not, ◌&&◌, [], ◌∷◌, ◌++◌, ltb, eqb, ℤ, pos, negsuc}
use Rattle.std.proofs.Math.Option.{Option, none, some}
use Rattle.std.specs.Int.Signed.{le_z}
use Rattle.specification.specs.Bytes.{Bytes, pick, digit, minus, is_in}

-- ---- read

unfoldable pub all_digits : Bytes → Bool
all_digits [] = true
all_digits (b ∷ bs) = is_in digit b && all_digits bs

-- the number that digits stand for, read on from a number; the byte of 0 is 48
unfoldable pub decimal : ℕ → Bytes → ℕ
decimal n [] = n
decimal n (b ∷ bs) = decimal (n * 10 + (b - 48)) bs

-- `0`, or digits without a leading zero
unfoldable pub well_formed : Bytes → Bool
well_formed [] = false
well_formed (b ∷ []) = all_digits (b ∷ [])
well_formed (b ∷ c ∷ bs) = not (eqb b 48) && all_digits (b ∷ c ∷ bs)

-- a number without a minus
unfoldable pub natural : Bytes → Option ℕ
natural bs = pick (well_formed bs) (some (decimal 0 bs)) none

-- a number after its minus; `-0` is no number
abbrev pub negated : Option ℕ → Option ℤ
negated none = none
negated (some zero) = none
negated (some (suc n)) = some (negsuc n)

abbrev pub unsigned : Option ℕ → Option ℤ
unsigned none = none
unsigned (some n) = some (pos n)

-- a number with or without a minus
unfoldable pub integer : Bytes → Option ℤ
integer [] = none
integer (b ∷ bs) = pick (is_in minus b) (negated (natural bs)) (unsigned (natural (b ∷ bs)))

-- ---- 32 bits

-- -2,147,483,648
abbrev pub least : ℤ
least = negsuc 2147483647

abbrev pub greatest : ℤ
greatest = pos 2147483647

-- from the first to the second, both included
abbrev pub within : ℤ → ℤ → ℤ → Bool
within lo hi z = le_z lo z && le_z z hi

-- the values and constants of a sheet
abbrev pub in32 : ℤ → Bool
in32 z = within least greatest z

-- ---- written

-- the digits of n, where k is at least n: it bounds the number of digits
unfoldable pub digits : ℕ → ℕ → Bytes
digits zero n = (48 + n) ∷ []
digits (suc k) n = let r = digits k (n / 10) ++ ((48 + n % 10) ∷ []) in pick (ltb n 10) ((48 + n) ∷ []) r

unfoldable pub printℕ : ℕ → Bytes
printℕ n = digits n n

-- a minus is the byte 45
unfoldable pub printℤ : ℤ → Bytes
printℤ (pos n) = printℕ n
printℤ (negsuc n) = 45 ∷ printℕ (suc n)
