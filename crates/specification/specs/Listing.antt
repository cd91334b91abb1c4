-- Blocks and their bytes. A block is `answer=N`, or `error=N`, `kind=K`, `at=T`, and then `name=value` for each valued cell in cell order,
-- one a line. Assumes nothing.
use Rattle.std.specs.Prelude.{ℕ, zero, suc, List, [], ◌∷◌, ◌++◌, ℤ, pos}
use Rattle.specification.specs.Bytes.{Bytes, bytes}
use Rattle.specification.specs.Number.{printℕ, printℤ}
use Rattle.specification.specs.Lines.{Declared, CellName, scalar, element, cell_of}
use Rattle.specification.specs.Place.{cell}
use Rattle.specification.specs.Value.{Slot, empty, full, Valuation}

-- ---- a block

-- N of an answer; N, kind and token of an error
pub data Head : Type 0 where
  answer_head : ℕ → Head
  error_head : ℕ → ℕ → ℕ → Head

-- a cell that a block names, and the value of its line
pub record Named : Type 0 where
  pub name : CellName
  pub value : ℤ

pub record Block : Type 0 where
  pub head : Head
  pub cells : List Named

-- ---- the cells that have a value

-- n scalars, from the i-th on
unfoldable pub scalar_names : ℕ → ℕ → List CellName
scalar_names i zero = []
scalar_names i (suc n) = scalar i ∷ scalar_names (suc i) n

-- n elements of array a, from the i-th on
unfoldable pub element_names : ℕ → ℕ → ℕ → List CellName
element_names a i zero = []
element_names a i (suc n) = element a i ∷ element_names a (suc i) n

-- arrays of these lengths, from the a-th on
unfoldable pub array_names : ℕ → List ℕ → List CellName
array_names a [] = []
array_names a (n ∷ ns) = element_names a 0 n ++ array_names (suc a) ns

-- all cells, in cell order
unfoldable pub cell_names : Declared → List CellName
cell_names D = scalar_names 0 D.scalars ++ array_names 0 D.arrays

abbrev pub named_if : CellName → Slot → List Named → List Named
named_if n empty ns = ns
named_if n (full z) ns = record { name = n; value = z } ∷ ns

-- those of the cells that have a value, with it
unfoldable pub valued : Declared → Valuation → List CellName → List Named
valued D β [] = []
valued D β (n ∷ ns) = named_if n (β (cell (cell_of D n))) (valued D β ns)

unfoldable pub block_of : Declared → Head → Valuation → Block
block_of D h β = record { head = h; cells = valued D β (cell_names D) }

-- ---- its bytes

-- what stands before an equals sign
pub data Label : Type 0 where
  answer_label error_label kind_label token_label : Label
  cell_label : CellName → Label

pub record Line : Type 0 where
  pub label : Label
  pub value : ℤ

infixr 70 ◌is◌
abbrev pub ◌is◌ : Label → ℤ → Line
◌is◌ l z = record { label = l; value = z }

unfoldable pub head_lines : Head → List Line
head_lines (answer_head n) = answer_label is pos n ∷ []
head_lines (error_head n kind token) = error_label is pos n ∷ kind_label is pos kind ∷ token_label is pos token ∷ []

unfoldable pub cell_lines : List Named → List Line
cell_lines [] = []
cell_lines (c ∷ cs) = cell_label c.name is c.value ∷ cell_lines cs

unfoldable pub block_lines : Block → List Line
block_lines b = head_lines b.head ++ cell_lines b.cells

-- names as in the given line
unfoldable pub label_text : Label → Bytes
label_text answer_label = bytes "answer"
label_text error_label = bytes "error"
label_text kind_label = bytes "kind"
label_text token_label = bytes "at"
label_text (cell_label (scalar n)) = bytes "v" ++ printℕ n
label_text (cell_label (element a e)) = bytes "a" ++ (printℕ a ++ (bytes "." ++ printℕ e))

-- label, equals sign, value, line feed
unfoldable pub lines_text : List Line → Bytes
lines_text [] = []
lines_text (l ∷ ls) = label_text l.label ++ (bytes "=" ++ (printℤ l.value ++ (bytes "\n" ++ lines_text ls)))

unfoldable pub block_text : Block → Bytes
block_text b = lines_text (block_lines b)

-- the bytes of blocks, one after the other
unfoldable pub listing_text : List Block → Bytes
listing_text [] = []
listing_text (b ∷ bs) = block_text b ++ listing_text bs
