-- By what the place sees. Assumes nothing.
use mathlib.Core.Path.{◌∙◌, sym}
use native.Mathlib.Omega.{arith}
use Rattle.sheet.proofs.Keys.{mark-yes, mark-no, next-below}
use Rattle.text.specs.Class.{specified}
use Rattle.sheet.proofs.lines.mark.Goals as goal

pub overflow_add-result : goal.overflow_add-result
overflow_add-result c = omega (arith, next-below c.args.s.now c.args.at (specified c.args.class) (sym c.sees.ensures ∙ c.if-sees.true))

pub returns-then-sees-clause-within : goal.returns-then-sees-clause-within
returns-then-sees-clause-within c = omega (arith, next-below c.args.s.now c.args.at (specified c.args.class) (sym c.sees.ensures ∙ c.if-sees.true))

pub returns-then-sees-clause-reading : goal.returns-then-sees-clause-reading
returns-then-sees-clause-reading c = mark-yes _ _ _ (sym c.if-sees.true ∙ c.sees.ensures)

pub returns-else-sees-clause-reading : goal.returns-else-sees-clause-reading
returns-else-sees-clause-reading c = rw c.new.ensures (mark-no _ _ _ (sym c.if-sees.false ∙ c.sees.ensures))
