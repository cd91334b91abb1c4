-- A scalar, or by the words. Assumes nothing.
use mathlib.Core.Path.{◌∙◌}
use Rattle.sheet.proofs.RangeLine.{first-scalar, first-array}
use Rattle.sheet.proofs.ranges.first_of.Goals as goal

pub returns-then-k-scalars : goal.returns-then-k-scalars
returns-then-k-scalars c = first-scalar _ _ _ c.if-k-scalars.true

pub returns : goal.returns
returns c = c.first_cell.ensures ∙ first-array _ _ _ c.if-k-scalars.false
