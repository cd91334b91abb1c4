-- The line of given values as the code reads it: names with held indices, cells found in the work words, each item laid as it is
-- read, and what the line's answer says. Assumes nothing.
use Rattle.std.specs.Prelude.{ℕ, ◌+◌, ◌≤◌, ◌<◌, ◌≡◌, List, [], leb, ltb, length, ℤ, Option, Some, None, Ok, Err}
use Rattle.specification.specs.Bytes.{Bytes, pick, feed, colon}
use Rattle.specification.specs.Parser.{Read, refused, found, Parser, give, refuse, require, next, mark, ◌>>=◌, ◌>>◌}
use Rattle.specification.specs.Lines.{value, Declared, cells, CellName, scalar, element}
use Rattle.specification.specs.Given.{Item, items, given_line}
use Rattle.values.specs.Word.{biased, signed}
use Rattle.tables.specs.Layout.{max_arrays, max_cells, first_at, value_at}
use Rattle.tables.specs.Ranges.{allows}
use Rattle.sheet.specs.declared.given.Name.{Name}
use Rattle.sheet.specs.declared.given.Name.TheVariants as names
use Rattle.sheet.specs.declared.given.Entry.{Entry}
use Rattle.sheet.specs.Codes.{index_word}
use Rattle.sheet.specs.Reader.{line_at}
use Rattle.sheet.specs.Tables.{Words, mark_of, laid_given}
use Rattle.sheet.specs.Held.{ArraysAt, RangesAt}
use Rattle.sheet.specs.Answers.{Answer, place_read, made_read, mapped}

-- ---- names

abbrev pub held_name : CellName → CellName
held_name (scalar n) = scalar (index_word n)
held_name (element a i) = element (index_word a) (index_word i)

abbrev pub held_names : Read CellName → Read CellName
held_names r = mapped held_name r

-- the name that the code's answer tells
abbrev pub name_of : Name → CellName
name_of (names.Scalar n) = scalar n
name_of (names.Element a i) = element a i

abbrev pub name_read : Bytes → Answer (Name × ℕ) → Read CellName
name_read s r = made_read name_of s r

-- ---- cells: none where the name is not declared

unfoldable pub scalar_in : ℕ → ℕ → Option ℕ
scalar_in scalars n = pick (ltb n scalars) (Some n) None

-- by the first cells in the words
unfoldable pub element_in : ℕ → Words → ℕ → ℕ → Option ℕ
element_in arrays w a i =
    pick (ltb a arrays)
    (pick (ltb (first_at w a + i) (first_at w (a + 1))) (Some (first_at w a + i)) None)
    None

-- ---- items

abbrev pub item_of : ℕ → ℤ → Item
item_of c z = record { cell = c; value = z }

-- a cell within the limit
abbrev pub Below : Option ℕ → Type 0
Below None = Unit {0}
Below (Some c) = c < max_cells

-- 7 at the item's place, then 10, then 13 by the cell's mark
abbrev pub judged : ℕ → ℕ → Words → Option ℕ → ℤ → Parser Item
judged p floor w None z = refuse 7 p
judged p floor w (Some c) z = require (leb floor c) 10 p (require (allows w (value_at w c) (biased z)) 13 p (give (item_of c z)))

-- the rest of an item after its name
unfoldable pub after_name : ℕ → ℕ → Words → Option ℕ → Parser Item
after_name p floor w c = mark colon >> (value >>= judged p floor w c)

abbrev pub entry_read : Bytes → Answer (Entry × ℕ) → Read Item
entry_read s r = made_read (λ i. item_of i.cell (signed i.word)) s r

-- ---- the words have the arrays of a sheet

pub record Declares (D : Declared) (scalars arrays : ℕ) (w : Words) : Type 0 where
  pub scalar : D.scalars ≡ scalars
  pub many : length D.arrays ≡ arrays
  pub few : arrays ≤ max_arrays
  pub small : cells D ≤ max_cells
  pub held : ArraysAt w D

pub record Arranged (scalars arrays : ℕ) (w : Words) : Type 0 where
  pub declared : Declared
  pub declares : Declares declared scalars arrays w

-- and the ranges, with the marks of the cells from the floor on, which have no value yet
pub record Vacant (D : Declared) (scalars arrays floor : ℕ) (w : Words) : Type 0 where
  pub declares : Declares D scalars arrays w
  pub ranges : RangesAt w D
  pub marks : (c : ℕ) → floor ≤ c → c < cells D → value_at w c ≡ mark_of D c

pub record Furnished (scalars arrays : ℕ) (w : Words) : Type 0 where
  pub declared : Declared
  pub vacant : Vacant declared scalars arrays 0 w

-- ---- the line's answer

-- the words after the items that were read
abbrev pub laid_items : Words → Read (List Item) → Read Words
laid_items w r = mapped (λ is. laid_given is w) r

abbrev pub given_read : Bytes → Answer ℕ → Words → Read Words
given_read s r w = place_read w s r

-- the line's value: empty, or items
abbrev pub given_value : Declared → Parser (List Item)
given_value D r = pick (next feed r.rest) (give []) (items D max_cells 0) r

-- the items that were read, which lie in the words w'
pub record GivenFound (D : Declared) (s : Bytes) (at : ℕ) (w w' : Words) (e : ℕ) : Type 0 where
  pub items : List Item
  pub read : given_line D (line_at s at) ≡ found items (line_at s e)
  pub laid : w' ≡ laid_given items w

abbrev pub GivenDone : Declared → Bytes → ℕ → Words → Words → Answer ℕ → Type 0
GivenDone D s at w w' (Err e) = (given_line D (line_at s at) ≡ refused e.number e.place) × (length w' ≡ length w)
GivenDone D s at w w' (Ok e) = GivenFound D s at w w' e
