-- A reader at a place of a sheet, and what the answers of the code say in the specification's words. Assumes nothing.
use Rattle.std.specs.Prelude.{ℕ, [], drop}
use Rattle.specification.specs.Bytes.{Bytes}
use Rattle.specification.specs.Parser.{Reader}
use Rattle.specification.specs.Formula.{Locals}

-- after so many tokens, with these locals bound
abbrev pub reader_at : Bytes → ℕ → ℕ → Locals → Reader
reader_at s at n B = record { place = at; rest = drop at s; tokens = n; bound = B }

-- in the first five lines
abbrev pub line_at : Bytes → ℕ → Reader
line_at s at = reader_at s at 0 []
