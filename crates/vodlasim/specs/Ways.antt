-- The mover's ways as those of the specification: which edition is moved, whether empty ranges are refused, and what is written for a sheet that
-- was read. Assumes nothing.
use Rattle.std.specs.Prelude.{ℕ, Bool, true, false}
use Rattle.specification.specs.Sheet.{Sheet}
use Rattle.specification.specs.Text.{text_of}
use Rattle.specification.specs.Tidy.{tidied}
use Rattle.specification.specs.Moves.{older, newer, raised, lowered, narrow_in, rounding_in, Result, fitted, unless, move_up, move_down, tidy}
use Rattle.specification.specs.Moving as moving
use Rattle.mover.specs.declared.Way.{Way}
use Rattle.mover.specs.declared.Way.TheVariants.{Up, Tidy, Down}

abbrev pub way_of : Way → moving.Way
way_of Up = move_up
way_of Tidy = tidy
way_of Down = move_down

abbrev pub edition_of : Way → ℕ
edition_of Up = older
edition_of Tidy = newer
edition_of Down = newer

abbrev pub strict_on : Way → Bool
strict_on Up = false
strict_on Tidy = false
strict_on Down = true

abbrev pub sheet_result : Way → Sheet → Result
sheet_result Up s = fitted (text_of (raised (tidied s)))
sheet_result Tidy s = fitted (text_of (tidied s))
sheet_result Down s = unless 15 (narrow_in s) (unless 16 (rounding_in s) (fitted (text_of (lowered s))))
