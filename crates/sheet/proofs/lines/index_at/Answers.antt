-- By the form of the number. Assumes nothing.
use mathlib.Core.Path.{◌∙◌, sym}
use native.Mathlib.Omega.{arith}
use Rattle.sheet.proofs.NumberLines.{numeral-le, index-bad, index_is}
use Rattle.sheet.proofs.lines.index_at.Goals as goal

pub overflow_add-result : goal.overflow_add-result
overflow_add-result c = omega (arith, numeral-le c.args.s.now c.args.at _ c.numeral-d.ensures)

pub returns-in-None : goal.returns-in-None
returns-in-None c = rw c.new.ensures (index-bad c.args.s.now c.args.at _ c.numeral-d.ensures (sym c.in-None.is ∙ c.natural.ensures))

pub returns-in-Some : goal.returns-in-Some
returns-in-Some c =
    index_is c.args.s.now c.args.at _ c.numeral-d.ensures _ _ (omega (arith, c.min.ensures)) (sym c.in-Some.is ∙ c.natural.ensures)
