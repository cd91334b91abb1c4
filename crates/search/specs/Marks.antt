-- The places that have a slot in the tables, and the marks that the words hold of them: the second word of each slot without a value. Assumes
-- nothing.
use Rattle.std.specs.Prelude.{ℕ, ◌+◌, ◌<◌, ◌≡◌, get_or}
use Rattle.specification.specs.Lines.{Declared, cells}
use Rattle.specification.specs.Place.{Place, cell, local}
use Rattle.specification.specs.Value.{empty, Valuation}
use Rattle.tables.specs.Layout.{max_locals, max_cells}
use Rattle.sheet.specs.Tables.{Words, mark_of}
use Rattle.sheet.specs.Held.{slot_of}

-- a place that has a slot in the tables
abbrev pub InTable : Place → Type 0
InTable (cell c) = c < max_cells
InTable (local l) = l < max_locals

-- a cell that is declared, or a local
abbrev pub Known : Declared → Place → Type 0
Known D (cell c) = (c < cells D) × (c < max_cells)
Known D (local l) = l < max_locals

-- the marks in the words: a cell's tells its range, a local's where it was bound
abbrev pub marks_in : Declared → (Place → ℕ) → Place → ℕ
marks_in D m (cell c) = mark_of D c
marks_in D m (local l) = m (local l)

-- the second word of each slot without a value is the place's mark
abbrev pub Marks : Words → Valuation → (Place → ℕ) → Type 0
Marks w α m = (p : Place) → InTable p → α p ≡ empty → get_or w (slot_of p + 1) 0 ≡ m p
