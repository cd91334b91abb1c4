-- Words of one table that are the same in two lists of work words, the second of which is the first after some writes. Assumes nothing.
use Rattle.std.specs.Prelude.{ℕ, ◌≤◌, ◌<◌, ◌≡◌, get_or}
use Rattle.tables.specs.Layout.{Words, cells_at, firsts_at}

abbrev pub SameTokens : Words → Words → Type 0
SameTokens w w' = (j : ℕ) → j < cells_at → get_or w' j 0 ≡ get_or w j 0

-- cells and locals
pub record SameSlots (w w' : Words) : Type 0 where
  pub same : (j : ℕ) → cells_at ≤ j → j < firsts_at → get_or w' j 0 ≡ get_or w j 0
