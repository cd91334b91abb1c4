-- Bytes put into lent memory from a place on. Those beyond its end are counted and not kept, so that the functions that write a block
-- count it as well. Assumes nothing.
use Rattle.std.specs.Prelude.{ℕ, ◌+◌, ◌<◌, ◌≡◌, ◌++◌, length}
use Rattle.std.proofs.lemmas.List.Edits.{sets}
use Rattle.specification.specs.Bytes.{Bytes, bytes}
use Rattle.specification.specs.Number.{printℤ}
use Rattle.values.specs.Word.{signed}
use Rattle.listing.specs.declared.writer.Writer.{Writer}

-- the place after them is a number of the machine
abbrev pub Room : ℕ → Bytes → Type 0
Room at t = at + length t < 18446744073709551616

-- from the memory o to o', and the place after them
pub record Put (o o' : Bytes) (at : ℕ) (t : Bytes) (after : ℕ) : Type 0 where
  pub bytes : o' ≡ sets o at t
  pub end : after ≡ at + length t

-- what a writer puts, from where it stands on, into the memory that it was lent
pub record Writes (before after : Writer) (t : Bytes) : Type 0 where
  pub memory : after.memory.ghost_name ≡ before.memory.ghost_name
  pub put : Put before.memory.now after.memory.now before.at t after.at

-- what stands after a cell's name
abbrev pub end_text : ℕ → Bytes
end_text w = bytes "=" ++ (printℤ (signed w) ++ bytes "\n")
