-- A constant, or another word of the lower bound. Assumes nothing.
use native.Mathlib.Omega.{arith}
use Rattle.sheet.proofs.CodeOperands.{operands-few}
use Rattle.sheet.specs.Stack.{worded}
use Rattle.sheet.proofs.Opened.{opened-constant, opened-lower}
use Rattle.sheet.proofs.stack.push_bounds.Goals as goal

pub returns-then-t-eq-CONSTANT : goal.returns-then-t-eq-CONSTANT
returns-then-t-eq-CONSTANT c =
    let a = c.args in
    rw c.put.ensures (opened-constant a.w.now a.n (worded a.e) a.t c.requires.0 c.requires.1 c.requires.3 c.if-t-eq-CONSTANT.true)

pub push_operands-requires : goal.push_operands-requires
push_operands-requires c =
    let h = c.requires in
    (omega (arith, h.0, operands-few _ h.4), omega (arith, h.1, c.put-2.auto.w), h.2, omega arith, h.4)

pub returns : goal.returns
returns c =
    let a = c.args in
    opened-lower a.w.now a.n (worded a.e) a.t c.requires.0 c.requires.1 c.requires.3 c.if-t-eq-CONSTANT.false _ _
    (rw c.put-2.ensures at c.push_operands.ensures)
