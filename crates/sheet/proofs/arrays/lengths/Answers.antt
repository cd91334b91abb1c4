-- The invariant: what is laid from the start on is laid from here on. Assumes nothing.
use mathlib.Core.Path.{◌∙◌, sym}
use native.Mathlib.Omega.{arith}
use Rattle.std.proofs.lemmas.Result.{err_from_is_err_and}
use Rattle.specification.specs.Bytes.{comma}
use Rattle.sheet.proofs.Keys.{next-below}
use Rattle.sheet.proofs.ArrayLine.{turn-none, turn-refused, turn-few, turn_last, turn-next}
use Rattle.sheet.proofs.arrays.lengths.Goals as goal

pub returns-in_err-m : goal.returns-in_err-m
returns-in_err-m c =
    let p = err_from_is_err_and c.from_residual.result c.from_residual.ensures.1 in rw (p.1, p.2) (turn-refused c.loop-n.invariant (omega arith) c.in_err-m.ensures)

pub overflow_add-end : goal.overflow_add-end
overflow_add-end c = omega (arith, turn-few c.loop-n.invariant (omega arith) c.in_ok-m.ensures)

pub returns-then-not-sees : goal.returns-then-not-sees
returns-then-not-sees c =
    turn_last c.loop-n.invariant (omega arith) c.in_ok-m.ensures _ c.set_first.ensures (sym c.if-not-sees.true ∙ c.sees.ensures) _ c.fill.ensures

pub overflow_add-at : goal.overflow_add-at
overflow_add-at c = omega (arith, next-below c.args.s.now c.in_ok-m.e comma (sym c.sees.ensures ∙ c.if-not-sees.false))

pub loop-n-preserved : goal.loop-n-preserved
loop-n-preserved c =
    turn-next c.loop-n.invariant (omega arith) c.in_ok-m.ensures _ c.set_first.ensures (sym c.if-not-sees.false ∙ c.sees.ensures)

pub returns : goal.returns
returns c = rw c.new.ensures (turn-none c.loop-n.invariant (omega arith))
