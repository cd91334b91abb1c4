-- The line of ranges as the code reads it: each range is laid as it is read, by the first cells in the words, and what the line's answer says.
-- Assumes nothing.
use Rattle.std.specs.Prelude.{ℕ, ◌+◌, ◌-◌, ◌≡◌, List, ltb, eqb, length, set, ℤ, Ok, Err}
use Rattle.specification.specs.Bytes.{Bytes, pick, comma}
use Rattle.specification.specs.Parser.{Read, refused, found, Parser, give, mark, ◌>>◌}
use Rattle.specification.specs.Lines.{Range, Declared, range, ranges_line}
use Rattle.values.specs.Word.{signed}
use Rattle.tables.specs.Layout.{first_at}
use Rattle.tables.specs.Ranges.{range_slot, range_mark}
use Rattle.sheet.specs.declared.ranges.Range as code
use Rattle.sheet.specs.Reader.{line_at}
use Rattle.sheet.specs.Tables.{Words, laid_marks, laid_ranges}
use Rattle.sheet.specs.Answers.{Answer, place_read, made_read, mapped}
use Rattle.sheet.specs.Items.{Declares}

-- ---- one range

abbrev pub between : ℤ → ℤ → Range
between lo hi = record { low = lo; high = hi }

abbrev pub range_read : Bytes → Answer (code.Range × ℕ) → Read Range
range_read s r = made_read (λ x. between (signed x.lo) (signed x.hi)) s r

-- what comes before range k: nothing before the first, else a comma
abbrev pub lead_of : ℕ → Parser (Unit {0})
lead_of k = pick (eqb k 0) (give tt) (mark comma)

abbrev pub led_range : ℕ → Parser Range
led_range k = lead_of k >> range

-- ---- its words

-- the first of its cells, and the cell after them
unfoldable pub first_in : ℕ → Words → ℕ → ℕ
first_in scalars w k = pick (ltb k scalars) k (first_at w (k - scalars))

unfoldable pub end_in : ℕ → Words → ℕ → ℕ
end_in scalars w k = pick (ltb k scalars) (k + 1) (first_at w (k - scalars + 1))

abbrev pub laid_in : ℕ → ℕ → ℕ → ℕ → Words → Words
laid_in scalars k lo hi w =
    laid_marks (range_mark k) (first_in scalars w k) (end_in scalars w k - first_in scalars w k) (set (set w (range_slot k) lo) (range_slot k + 1) hi)

-- ---- the line's answer

abbrev pub laid_by : Declared → Words → Read (List Range) → Read Words
laid_by D w r = mapped (λ rs. laid_ranges D 0 rs w) r

abbrev pub ranges_read : Bytes → Answer ℕ → Words → Read Words
ranges_read s r w = place_read w s r

-- the ranges that were read, and what they make of the words of a sheet with such scalars and arrays
pub record RangesFound (edition scalars arrays : ℕ) (s : Bytes) (at : ℕ) (w w' : Words) (e : ℕ) : Type 0 where
  pub ranges : List Range
  pub read : ranges_line edition (scalars + arrays) (line_at s at) ≡ found ranges (line_at s e)
  pub laid : (D : Declared) → Declares D scalars arrays w → w' ≡ laid_ranges D 0 ranges w

abbrev pub RangesDone : ℕ → ℕ → ℕ → Bytes → ℕ → Words → Words → Answer ℕ → Type 0
RangesDone edition scalars arrays s at w w' (Err e) = (ranges_line edition (scalars + arrays) (line_at s at) ≡ refused e.number e.place) × (length w' ≡ length w)
RangesDone edition scalars arrays s at w w' (Ok e) = RangesFound edition scalars arrays s at w w' e
