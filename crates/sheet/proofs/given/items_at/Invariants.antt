-- The invariant: for every sheet whose arrays the words have, what is laid from the start on is laid from here on. The measure is
-- what is left of the cells. Assumes nothing.
use Prim.Native.Nat.{◌-◌}
use Rattle.tables.specs.Layout.{max_cells}
use Rattle.sheet.proofs.GivenLine.{Turning}
use Rattle.sheet.proofs.given.items_at.Given as goal

abbrev pub invariant-loop-item : goal.invariant-loop-item
invariant-loop-item l = Turning l.s l.from l.d.scalars l.d.arrays l.initial.w l.w l.at l.floor

abbrev pub decreases-loop-item : goal.decreases-loop-item
decreases-loop-item l = max_cells - l.floor
