-- By the first byte of the value. Assumes nothing.
use mathlib.Core.Path.{◌∙◌, sym}
use Rattle.sheet.proofs.ArrayLine.{value_none, value-some}
use Rattle.sheet.proofs.arrays.contents.Goals as goal

pub returns-then-sees : goal.returns-then-sees
returns-then-sees c = value_none _ _ _ _ (sym c.if-sees.true ∙ c.sees.ensures) _ c.fill.ensures

pub returns : goal.returns
returns c = c.lengths.ensures ∙ value-some _ _ _ _ (sym c.if-sees.false ∙ c.sees.ensures)
