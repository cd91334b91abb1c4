-- By the first byte of the value. Assumes nothing.
use mathlib.Core.Path.{◌∙◌, sym}
use Rattle.sheet.proofs.GivenLine.{value_none}
use Rattle.sheet.proofs.given.contents.Goals as goal

pub returns-then-sees : goal.returns-then-sees
returns-then-sees c = λ D d. value_none D _ _ _ (sym c.if-sees.true ∙ c.sees.ensures)
