-- Signed 32-bit integers as words: the word w stands for w - 2^31, so that words compare as their values do and -2,147,483,648 is 0.
-- Assumes nothing.
use Rattle.std.specs.Prelude.{ℕ, ◌+◌, ◌-◌, ◌≤◌, ℤ, pos, negsuc, nat_abs}
use Rattle.std.proofs.Math.IntN.{sub_ℕ}

-- the value of a word
abbrev pub signed : ℕ → ℤ
signed w = sub_ℕ w 2147483648

-- the word of a value in 32 bits
abbrev pub biased : ℤ → ℕ
biased (pos n) = 2147483648 + n
biased (negsuc n) = 2147483647 - n

-- no further from 0 than the values of words are
abbrev pub Narrow : ℤ → Type 0
Narrow z = nat_abs z ≤ 2147483648
