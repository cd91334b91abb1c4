-- A case of the tables: a sheet, and the page that is due for it, as text. Assumes nothing.
use Prim.Native.Nat.{ℕ}
use Prim.Native.String.{String}
use mathlib.Core.List.{◌++◌}
use Rattle.specification.specs.declared.Setting.{Setting}
use Rattle.specification.specs.Bytes.{Bytes, bytes}
use Rattle.specification.specs.Outcome.{call}
use Rattle.specification.specs.Printed.{printed, box_skip, box_words, box_output, box}

-- the box with this input; or a call under a setting, with so many work words and output bytes
pub data Case : Type 0 where
  boxed : Bytes → String → Case
  called : Bytes → Setting → ℕ → ℕ → String → Case

-- what the definitions give, and what is due
abbrev pub given : Case → Bytes
given (boxed input page) = box input
given (called sheet S words size page) = printed (call sheet S words size)

abbrev pub due : Case → Bytes
due (boxed input page) = bytes page
due (called sheet S words size page) = bytes page

-- under a path limit and a budget, with the box's memory
abbrev pub under : ℕ → ℕ → Bytes → String → Case
under path budget sheet page = called sheet (record { path = path; budget = budget; skip = box_skip }) box_words box_output page

-- a sheet with so many scalars, locals and arrays, nothing given, and its formula
abbrev pub sheet_of : String → String → String → String → Bytes
sheet_of scalars locals arrays formula =
    bytes "edition=1\nscalars="
    ++ bytes scalars ++ bytes "\nlocals=" ++ bytes locals ++ bytes "\narrays=" ++ bytes arrays ++ bytes "\ngiven=\nformula=" ++ bytes formula ++ bytes "\n"

-- one scalar and one local, at the box
abbrev pub single : String → String → Case
single formula page = boxed (sheet_of "1" "1" "" formula) page
