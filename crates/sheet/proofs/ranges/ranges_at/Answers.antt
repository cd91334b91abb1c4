-- The invariant: for every sheet whose arrays the words have, what is laid from the start on is laid from here on. Assumes nothing.
use native.Mathlib.Omega.{arith}
use Rattle.std.proofs.lemmas.Result.{err_from_is_err_and}
use Rattle.sheet.proofs.RangeLine.{turn-first, turn_last, turn-cells, turn-refused, turn-next}
use Rattle.sheet.proofs.ranges.ranges_at.Goals as goal

pub loop-k-init : goal.loop-k-init
loop-k-init c = turn-first _ _ _ _ _

pub returns-in_err-range : goal.returns-in_err-range
returns-in_err-range c = λ D d. let p = err_from_is_err_and c.from_residual.result c.from_residual.ensures.1 in rw (p.1, p.2) (turn-refused c.loop-k.invariant (omega arith) c.in_err-range.ensures D d)

pub lay-requires : goal.lay-requires
lay-requires c =
    let inv = c.loop-k.invariant in
    let cells = turn-cells inv (omega arith) c.requires.0 in
    (omega (arith, c.requires.0.declares.few), c.requires.1, cells.0, cells.1, omega (arith, inv.long, c.requires.2))

pub loop-k-preserved : goal.loop-k-preserved
loop-k-preserved c = turn-next c.loop-k.invariant (omega arith) _ c.in_ok-range.ensures _ c.lay.ensures

pub returns : goal.returns
returns c = turn_last c.loop-k.invariant (omega arith)
