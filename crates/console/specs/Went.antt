-- What a write tells of so many bytes. Assumes nothing.
use Rattle.std.specs.Prelude.{ℕ, ◌<◌, ◌≡◌, Result, MatchResult}
use Rattle.console.specs.declared.Lost.{Lost}

-- they all went out, and so many are told; or a byte was lost, after fewer
abbrev pub Went : ℕ → Result ℕ Lost → Type 0
Went all r = MatchResult r (λ sent. sent ≡ all) (λ lost. lost.sent < all)
