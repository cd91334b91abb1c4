-- One entry a turn. Assumes nothing.
use native.Mathlib.Omega.{arith}
use Rattle.sheet.proofs.Entries.{repeated-start, repeated-next, repeated-end}
use Rattle.sheet.proofs.stack.repeat.Goals as goal

pub loop-i-init : goal.loop-i-init
loop-i-init c = (omega arith, omega arith, repeated-start _ _ _)

pub put-requires : goal.put-requires
put-requires c = (omega arith, omega (arith, c.loop-i.invariant.2.beside.long))

pub loop-i-preserved : goal.loop-i-preserved
loop-i-preserved c = (omega arith, omega arith, rw c.put.ensures (repeated-next _ _ _ _ _ (omega arith) (omega arith) (omega arith) c.loop-i.invariant.2))

pub shape_of-w : goal.shape_of-w
shape_of-w c = c.loop-i.invariant.2.beside.long

pub returns : goal.returns
returns c = (omega arith, repeated-end _ _ _ _ _ _ (omega arith) c.loop-i.invariant.2)
