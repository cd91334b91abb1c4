-- By the form of the number. Assumes nothing.
use mathlib.Core.Path.{◌∙◌, sym}
use native.Mathlib.Omega.{arith}
use Rattle.sheet.proofs.NumberLines.{numeral-le, value-bad, value-is}
use Rattle.sheet.proofs.lines.integer_at.Goals as goal

pub overflow_add-result : goal.overflow_add-result
overflow_add-result c = omega (arith, numeral-le c.args.s.now c.args.at _ c.numeral-d.ensures)

pub returns-in-None : goal.returns-in-None
returns-in-None c = rw c.new.ensures (value-bad c.args.s.now c.args.at _ c.numeral-d.ensures (sym c.in-None.is ∙ c.integer.ensures))

pub returns-in-Some : goal.returns-in-Some
returns-in-Some c = value-is c.args.s.now c.args.at _ c.numeral-d.ensures _ (sym c.in-Some.is ∙ c.integer.ensures)
