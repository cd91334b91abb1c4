-- A block in the rest of the output: what the work words must hold, and what writing leaves. Assumes nothing.
use Rattle.std.specs.Prelude.{ℕ, ◌<◌, ◌≤◌, ◌≡◌, ◌++◌, length, drop, Option, Some, None}
use Rattle.specification.specs.Bytes.{Bytes}
use Rattle.specification.specs.Lines.{Declared, cells}
use Rattle.specification.specs.Value.{Valuation}
use Rattle.specification.specs.WellFormed.{Valid}
use Rattle.specification.specs.Listing.{block_of, block_text}
use Rattle.tables.specs.Layout.{max_cells, max_arrays}
use Rattle.sheet.specs.Tables.{Words}
use Rattle.sheet.specs.Held.{Holds, ArraysAt}
use Rattle.listing.specs.declared.Head.{Head}
use Rattle.listing.specs.Model.{Sized, head_of}

-- the words hold a valuation of the declared cells, so many of them scalars, with so many arrays
pub record Shows (w : Words) (scalars arrays : ℕ) (D : Declared) (β : Valuation) : Type 0 where
  pub size : Sized w
  pub scalar_count : scalars ≡ D.scalars
  pub array_count : arrays ≡ length D.arrays
  pub few : arrays ≤ max_arrays
  pub limit : cells D ≤ max_cells
  pub firsts : ArraysAt w D
  pub holds : Holds w β
  pub valid : Valid D β

-- for some declarations and valuation
pub record Ready (w : Words) (scalars arrays : ℕ) : Type 0 where
  pub D : Declared
  pub β : Valuation
  pub shows : Shows w scalars arrays D β

-- all of the block at the start of the memory, which is o before and o' after; or none of it, where it does not fit
abbrev pub Wrote : Bytes → Bytes → Bytes → Option ℕ → Type 0
Wrote b o o' None = (length o < length b) × (o' ≡ o)
Wrote b o o' (Some n) = (n ≡ length b) × (n ≤ length o) × (o' ≡ b ++ drop n o)

-- the block of whatever the words hold
abbrev pub Listed : Words → ℕ → ℕ → Head → Bytes → Bytes → Option ℕ → Type 0
Listed w scalars arrays h o o' r =
    (D : Declared) (β : Valuation) → Shows w scalars arrays D β → Wrote (block_text (block_of D (head_of h) β)) o o' r
