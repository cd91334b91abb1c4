-- By the words' first cells. Assumes nothing.
use native.Mathlib.Omega.{arith}
use Rattle.sheet.proofs.CellNames.{element-undeclared, element-out, element-in}
use Rattle.sheet.proofs.given.element_cell.Goals as goal

pub returns-then-arrays-a : goal.returns-then-arrays-a
returns-then-arrays-a c = element-undeclared _ _ _ _ c.if-arrays-a.true

pub returns-then-i-length : goal.returns-then-i-length
returns-then-i-length c =
    let a = c.args in
    element-in _ a.w.now _ a.i c.if-arrays-a.false _ (omega (arith, c.first_cell-first.ensures)) (omega (arith, c.if-i-length.true, c.saturating_sub-length.ensures, c.first_cell-first.ensures, c.first_cell-end.ensures))

pub returns-else-i-length : goal.returns-else-i-length
returns-else-i-length c =
    let a = c.args in
    element-out _ a.w.now _ a.i c.if-arrays-a.false (omega (arith, c.if-i-length.false, c.saturating_sub-length.ensures, c.first_cell-first.ensures, c.first_cell-end.ensures))
