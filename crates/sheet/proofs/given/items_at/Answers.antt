-- The invariant: for every sheet whose arrays the words have, what is laid from the start on is laid from here on. The measure is
-- what is left of the cells. Assumes nothing.
use mathlib.Core.Path.{◌∙◌, sym}
use native.Mathlib.Omega.{arith}
use Rattle.std.proofs.lemmas.Result.{err_from_is_err_and}
use Rattle.sheet.proofs.GivenLine.{turn-first, turn-refused, turn-cell, turn_last, turn-next}
use Rattle.sheet.proofs.given.items_at.Goals as goal

pub loop-item-init : goal.loop-item-init
loop-item-init c = turn-first _ _ _ _ _

pub returns-in_err-item : goal.returns-in_err-item
returns-in_err-item c = λ D d. let p = err_from_is_err_and c.from_residual.result c.from_residual.ensures.1 in rw (p.1, p.2) (turn-refused c.loop-item.invariant c.in_err-item.ensures D d)

pub put-requires : goal.put-requires
put-requires c =
    ((turn-cell c.loop-item.invariant _ c.in_ok-item.ensures c.requires.0).1, omega (arith, c.loop-item.invariant.long, c.requires.1))

pub returns-then-not-sees : goal.returns-then-not-sees
returns-then-not-sees c =
    turn_last c.loop-item.invariant _ c.in_ok-item.ensures _ c.put.ensures (sym c.if-not-sees.true ∙ c.sees.ensures)

pub overflow_add-floor : goal.overflow_add-floor
overflow_add-floor c = omega (arith, (turn-cell c.loop-item.invariant _ c.in_ok-item.ensures c.requires.0).1)

pub loop-item-smaller : goal.loop-item-smaller
loop-item-smaller c = let h = turn-cell c.loop-item.invariant _ c.in_ok-item.ensures c.requires.0 in omega (arith, h.0, h.1)

pub loop-item-preserved : goal.loop-item-preserved
loop-item-preserved c =
    turn-next c.loop-item.invariant _ c.in_ok-item.ensures _ c.put.ensures (sym c.if-not-sees.false ∙ c.sees.ensures)
