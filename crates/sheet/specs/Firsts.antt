-- The line of arrays as the code reads it: each first cell is laid as its length is read, and what the line's answer says.
-- Assumes nothing.
use Rattle.std.specs.Prelude.{ℕ, zero, suc, ◌+◌, ◌-◌, ◌≡◌, List, [], length, get_or, drop, set, Ok, Err}
use Rattle.specification.specs.Bytes.{Bytes, pick, feed}
use Rattle.specification.specs.Parser.{Read, refused, found, Parser, give, next}
use Rattle.specification.specs.Lines.{lengths, sum, Declared, arrays_line}
use Rattle.tables.specs.Layout.{max_arrays, max_cells, first_slot}
use Rattle.sheet.specs.declared.arrays.Arrays.{Arrays}
use Rattle.sheet.specs.Reader.{line_at}
use Rattle.sheet.specs.Tables.{Words, laid_arrays}
use Rattle.sheet.specs.Answers.{Answer, made_read}

-- ---- while the line is read

-- m first cells from the a-th on, which is `end`, where these lengths follow
unfoldable pub laid_on : ℕ → ℕ → ℕ → List ℕ → Words → Words
laid_on zero a end ns w = w
laid_on (suc m) a end ns w = laid_on m (suc a) (end + get_or ns 0 0) (drop 1 ns) (set w (first_slot a) end)

-- how many arrays, the end of the cells, and the words
pub record Table : Type 0 where
  pub arrays : ℕ
  pub end : ℕ
  pub words : Words

-- what these lengths make after the first a arrays
abbrev pub tabled : ℕ → ℕ → Words → List ℕ → Table
tabled a end w ns = record { arrays = a + length ns; end = end + sum ns; words = laid_on (suc max_arrays - a) a end ns w }

-- the line's value: empty, or lengths
abbrev pub arrays_value : ℕ → Parser (List ℕ)
arrays_value scalars r = pick (next feed r.rest) (give []) (lengths max_arrays (max_cells - scalars)) r

-- what the code's answer tells of the table, with the words that it left
abbrev pub table_of : Words → Arrays → Table
table_of w a = record { arrays = a.count; end = a.end; words = w }

abbrev pub arrays_read : Bytes → Answer (Arrays × ℕ) → Words → Read Table
arrays_read s r w = made_read (table_of w) s r

-- ---- the line's answer, over the words w

-- the lengths that were read, the table that they make, and the tables of a sheet that declares them
pub record ArraysFound (s : Bytes) (at scalars : ℕ) (w : Words) (t : Table) (e : ℕ) : Type 0 where
  pub lengths : List ℕ
  pub read : arrays_line scalars (line_at s at) ≡ found lengths (line_at s e)
  pub many : length lengths ≡ t.arrays
  pub ends : scalars + sum lengths ≡ t.end
  pub laid : (D : Declared) → D.scalars ≡ scalars → D.arrays ≡ lengths → t.words ≡ laid_arrays D w

-- the line leaves the words as w'
abbrev pub ArraysDone : Bytes → ℕ → ℕ → Words → Words → Answer (Arrays × ℕ) → Type 0
ArraysDone s at scalars w w' (Err e) = (arrays_line scalars (line_at s at) ≡ refused e.number e.place) × (length w' ≡ length w)
ArraysDone s at scalars w w' (Ok x) = ArraysFound s at scalars w (table_of w' x.0) x.1
