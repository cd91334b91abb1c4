-- Sets of small numbers, of locals above all, as words: bit l says whether l is in the set. Assumes nothing.
use Rattle.std.specs.Prelude.{ℕ, ◌/◌, ◌%◌, ◌^◌, Bool, eqb}

-- l is in the set m
unfoldable pub in_set : ℕ → ℕ → Bool
in_set m l = eqb (m / 2 ^ l % 2) 1
