-- The third demand, sentence by sentence, of a sheet and the blocks that are listed; and over the bytes that a run wrote. The theorems are in
-- proofs/Laws/Demand3.antt. Assumes nothing.
use Rattle.std.specs.Prelude.{◌≡◌, Bool, true, false, not, List, T}
use Rattle.specification.specs.Lists.{Each, Some}
use Rattle.specification.specs.Bytes.{Bytes}
use Rattle.specification.specs.Lines.{Declared, cell_of}
use Rattle.specification.specs.Given.{Item}
use Rattle.specification.specs.Sheet.{Sheet}
use Rattle.specification.specs.Listing.{Head, answer_head, error_head, Block}
use Rattle.specification.specs.Listed.{Listed}
use Rattle.specification.specs.Plain.{Filling, Fills, Keeps, True}

-- ---- of blocks

abbrev pub heads_answer : Head → Bool
heads_answer (answer_head n) = true
heads_answer (error_head n kind token) = false

abbrev pub IsAnswer : Block → Type 0
IsAnswer b = T (heads_answer b.head)

abbrev pub IsError : Block → Type 0
IsError b = T (not (heads_answer b.head))

-- the block has a line for this cell, with this value
abbrev pub Names : Declared → Block → Item → Type 0
Names D b i = Some (λ n. (cell_of D n.name ≡ i.cell) × (n.value ≡ i.value)) b.cells

-- the filling gives each cell that the block names the value of that line
abbrev pub Agrees : Declared → Filling → Block → Type 0
Agrees D φ b = Each (λ n. φ (cell_of D n.name) ≡ n.value) b.cells

-- ---- the demand

-- a filling of all cells with values of their ranges that keeps the given values
abbrev pub Such : Sheet → Filling → Type 0
Such s φ = Fills s.declared φ × Keeps s.given φ

-- no such filling makes the formula true
abbrev pub NoPattern : Sheet → Type 0
NoPattern s = (φ : Filling) → Such s φ → ¬ True s φ

-- every listed answer is right
pub record Right (s : Sheet) (listed : List Block) : Type 0 where
  -- every listed answer names each given cell with its given value
  pub names_given : Each (λ b. IsAnswer b → Each (Names s.declared b) s.given) listed
  -- such a filling that agrees with a listed answer makes the formula true
  pub sound : (φ : Filling) → Such s φ → Each (λ b. IsAnswer b → Agrees s.declared φ b → True s φ) listed

-- and every pattern is listed
pub record Agreement (s : Sheet) (listed : List Block) : Type 0 where
  pub right : Right s listed
  -- such a filling that makes the formula true agrees with some listed answer or error block
  pub complete : (φ : Filling) → Such s φ → True s φ → Some (Agrees s.declared φ) listed
  -- where no error block is listed, it makes the formula true exactly when it agrees with some listed answer
  pub exactly_when :
      Each IsAnswer listed → (φ : Filling) → Such s φ →
      (True s φ → Some (λ b. IsAnswer b × Agrees s.declared φ b) listed) ×
      (Some (λ b. IsAnswer b × Agrees s.declared φ b) listed → True s φ)
  -- and no answer is listed exactly when no such filling makes the formula true
  pub none_exactly_when :
      Each IsAnswer listed →
      (Each IsError listed → NoPattern s) × (NoPattern s → Each IsError listed)

-- of the sheet's bytes and the bytes written
pub record Demand3 (sheet written : Bytes) : Type 0 where
  pub listed : Listed sheet written
  pub agreement : Agreement listed.what listed.blocks
