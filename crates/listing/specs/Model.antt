-- A block's bytes as the code makes them, from the work words alone. The laws that they are the specification's are in
-- proofs/Laws/Shown.antt. Assumes nothing.
use Rattle.std.specs.Prelude.{ℕ, zero, suc, ◌+◌, ◌-◌, ◌<◌, ◌≤◌, List, [], ◌∷◌, ◌++◌, length, eqb}
use Rattle.specification.specs.Bytes.{Bytes, pick}
use Rattle.specification.specs.Lines.{CellName, scalar, element}
use Rattle.specification.specs.Listing as listing
use Rattle.specification.specs.Listing.{Line, answer_head, error_head, cell_label, ◌is◌, head_lines, lines_text}
use Rattle.values.specs.Word.{signed}
use Rattle.tables.specs.Layout.{Words, dues_at, flag_at, value_at, first_at, max_cells, max_arrays}
use Rattle.listing.specs.declared.Head.{Head}
use Rattle.listing.specs.declared.Head.TheVariants.{Answer, Error}
use Rattle.listing.specs.declared.cells.Name.{Name}
use Rattle.listing.specs.declared.cells.Name.TheVariants.{Scalar, Element}
use Rattle.listing.specs.declared.writer.Writer.{Writer}
use Rattle.listing.specs.Put.{Writes}

-- ---- the words

-- the words of cells and arrays are there
abbrev pub Sized : Words → Type 0
Sized w = dues_at ≤ length w

-- array a ends at its first cell or after it, and among the cells
pub record Spans (w : Words) (a : ℕ) : Type 0 where
  pub rising : first_at w a ≤ first_at w (a + 1)
  pub limit : first_at w (a + 1) ≤ max_cells

-- so do these arrays
pub record Laid (w : Words) (arrays : ℕ) : Type 0 where
  pub size : Sized w
  pub few : arrays ≤ max_arrays
  pub spans : (a : ℕ) → a < arrays → Spans w a

-- ---- lines

-- those of n numbers, from i on
unfoldable pub each_line : (ℕ → List Line) → ℕ → ℕ → List Line
each_line f i zero = []
each_line f i (suc n) = f i ++ each_line f (suc i) n

-- a name in the specification's words
abbrev pub name_of : Name → CellName
name_of (Scalar n) = scalar n
name_of (Element a e) = element a e

-- the line of cell c under its name, if it has a value
unfoldable pub line_at : Words → CellName → ℕ → List Line
line_at w n c = pick (eqb (flag_at w c) 0) [] (cell_label n is signed (value_at w c) ∷ [])

abbrev pub scalar_line : Words → ℕ → List Line
scalar_line w i = line_at w (scalar i) i

-- element i of array a, whose first cell is c
abbrev pub element_line : Words → ℕ → ℕ → ℕ → List Line
element_line w a c i = line_at w (element a i) (c + i)

abbrev pub array_lines : Words → ℕ → List Line
array_lines w a = each_line (element_line w a (first_at w a)) 0 (first_at w (a + 1) - first_at w a)

-- ---- a block

-- the head in the specification's words
abbrev pub head_of : Head → listing.Head
head_of (Answer n) = answer_head n
head_of (Error n kind token) = error_head n kind token

abbrev pub head_text : Head → Bytes
head_text h = lines_text (head_lines (head_of h))

-- the head's lines at the start of the memory: at most three keys and three numbers of ten digits
pub record Headed (before after : Writer) (h : Head) : Type 0 where
  pub text : Writes before after (head_text h)
  pub short : after.at ≤ 47

-- head, scalars, arrays
abbrev pub model_text : Words → ℕ → ℕ → Head → Bytes
model_text w scalars arrays h =
    head_text h ++ (lines_text (each_line (scalar_line w) 0 scalars) ++ lines_text (each_line (array_lines w) 0 arrays))
