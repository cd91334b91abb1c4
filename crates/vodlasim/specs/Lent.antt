-- Lent memory: the words or bytes of a slice when a call is entered and when it returns. Assumes nothing.
use Rattle.std.specs.Prelude.{ℕ, List}

pub record Lent : Type 0 where
  pub before : List ℕ
  pub after : List ℕ

abbrev pub lent : List ℕ → List ℕ → Lent
lent w w' = record { before = w; after = w' }
