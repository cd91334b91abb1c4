-- By the letter. Assumes nothing.
use mathlib.Core.Path.{◌∙◌, sym}
use Rattle.sheet.proofs.CellNames.{name-scalar, name-element}
use Rattle.sheet.proofs.given.name_at.Goals as goal

pub returns-then-begins : goal.returns-then-begins
returns-then-begins c = c.scalar_name.ensures ∙ name-scalar _ _ (sym c.begins.ensures ∙ c.if-begins.true)

pub returns-else-begins : goal.returns-else-begins
returns-else-begins c = c.element_name.ensures ∙ name-element _ _ (sym c.begins.ensures ∙ c.if-begins.false)
