-- The invariant: what is laid from the start on is laid from here on. Assumes nothing.
use mathlib.Core.Path.{refl}
use native.Mathlib.Omega.{arith}
use Rattle.sheet.proofs.ArrayLine.{fill_more, fill_done}
use Rattle.sheet.proofs.arrays.fill.Goals as goal

pub loop-a-init : goal.loop-a-init
loop-a-init c = record { long = refl; rest = refl }

pub loop-a-preserved : goal.loop-a-preserved
loop-a-preserved c = fill_more c.loop-a.invariant (omega arith) _ c.set_first.ensures

pub returns : goal.returns
returns c = fill_done c.loop-a.invariant (omega arith)
