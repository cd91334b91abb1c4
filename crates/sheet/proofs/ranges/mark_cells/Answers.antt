-- The invariant: the marks laid from the first cell on are laid from here on. Assumes nothing.
use mathlib.Core.Path.{refl}
use native.Mathlib.Omega.{arith}
use Rattle.sheet.proofs.RangeLine.{mark-more, mark-done}
use Rattle.sheet.proofs.ranges.mark_cells.Goals as goal

pub loop-c-init : goal.loop-c-init
loop-c-init c = record { long = refl; inside = c.requires.0; rest = refl }

pub loop-c-preserved : goal.loop-c-preserved
loop-c-preserved c = mark-more c.loop-c.invariant (omega arith) _ c.set_mark.ensures

pub returns : goal.returns
returns c = mark-done c.loop-c.invariant (omega arith)
