-- The tokens that stand in the table, and the end of each one's subtree. Assumes nothing.
use Rattle.std.specs.Prelude.{ℕ, zero, suc, ◌-◌, ◌<◌, ◌≡◌, List, [], ◌∷◌, length, drop, ltb}
use Rattle.specification.specs.Bytes.{pick}
use Rattle.sheet.specs.declared.Token.{Token}
use Rattle.sheet.specs.Codes.{token}
use Rattle.sheet.specs.Tables.{Words, after}
use Rattle.sheet.specs.Held.{code_at, operand_at, end_at}

-- n tokens, from the i-th on
unfoldable pub tokens_in : Words → ℕ → ℕ → List Token
tokens_in w i zero = []
tokens_in w i (suc n) = token (code_at w i) (operand_at w i) ∷ tokens_in w (suc i) n

-- the number of the token after the subtree of token i
unfoldable pub end_in : List Token → ℕ → ℕ
end_in ts i = length ts - length (after (drop i ts) 1)

-- the ends of the n tokens after the i-th are in the table
abbrev pub EndsAfter : Words → ℕ → ℕ → Type 0
EndsAfter w n i = (j : ℕ) → i < j → j < n → end_at w j ≡ end_in (tokens_in w 0 n) j

-- the end of token e's subtree from the table, n where there is no such token
abbrev pub end_from : Words → ℕ → ℕ → ℕ
end_from w n e = pick (ltb e n) (end_at w e) n
