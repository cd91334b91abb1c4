-- What the code hands over of a number that the specification reads: its value up to 2^32, or its word in 32 bits.
-- Assumes nothing.
use Rattle.std.specs.Prelude.{ℕ, ◌+◌, ◌-◌, min, Bool, true, false, not, [], ◌∷◌, leb, eqb, ℤ, Option, Some, None}
use Rattle.std.proofs.Math.Option as math
use Rattle.specification.specs.Bytes.{Bytes, pick}
use Rattle.specification.specs.Number.{all_digits, decimal, in32}
use Rattle.values.specs.Word.{biased}

-- a number, or 2^32 where it is more
abbrev pub held : ℕ → ℕ
held k = min k 4294967296

-- a number without a minus, with its value held
abbrev pub capped : math.Option ℕ → Option ℕ
capped math.none = None
capped (math.some k) = Some (held k)

-- the word of a number in 32 bits
abbrev pub worded : math.Option ℤ → Option ℕ
worded math.none = None
worded (math.some z) = pick (in32 z) (Some (biased z)) None

-- ---- on the way

-- the number that digits stand for, read on from a number; none where a byte is no digit
abbrev pub read_on : ℕ → Bytes → math.Option ℕ
read_on n bs = pick (all_digits bs) (math.some (decimal n bs)) math.none

-- there is a first byte, and it is no zero before others
unfoldable pub headed : Bytes → Bool
headed [] = false
headed (b ∷ []) = true
headed (b ∷ c ∷ bs) = not (eqb b 48)

-- the word of a number that was read
abbrev pub plain_word : ℕ → Option ℕ
plain_word k = pick (leb k 2147483647) (Some (2147483648 + k)) None

-- the word of a number that was read after its minus; `-0` is none
abbrev pub minus_word : ℕ → Option ℕ
minus_word k = pick (eqb k 0) None (pick (leb k 2147483648) (Some (2147483648 - k)) None)
