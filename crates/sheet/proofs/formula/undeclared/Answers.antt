-- By the code. Assumes nothing.
use mathlib.Core.Path.{◌∙◌, sym}
use borrow.Author.Tests.{eq-eqb, ne_eqb}
use Rattle.tables.specs.Codes.{parameter_code}
use Rattle.sheet.specs.Turn.{undeclared}
use Rattle.sheet.proofs.formula.undeclared.Goals as goal

pub returns-then-code-eq-PARAMETER : goal.returns-then-code-eq-PARAMETER
unfolding undeclared
returns-then-code-eq-PARAMETER c = rw (eq-eqb _ parameter_code c.if-code-eq-PARAMETER.true)

pub returns-then-is_number : goal.returns-then-is_number
unfolding undeclared
returns-then-is_number c = rw (ne_eqb _ parameter_code c.if-code-eq-PARAMETER.false, sym c.is_number.ensures ∙ c.if-is_number.true)

pub returns-else-is_number : goal.returns-else-is_number
unfolding undeclared
returns-else-is_number c = rw (ne_eqb _ parameter_code c.if-code-eq-PARAMETER.false, sym c.is_number.ensures ∙ c.if-is_number.false)
