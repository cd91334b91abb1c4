-- The invariant: the marks laid from the first cell on are laid from here on. Assumes nothing.
use Rattle.sheet.proofs.RangeLine.{Marking}
use Rattle.sheet.proofs.ranges.mark_cells.Given as goal

abbrev pub invariant-loop-c : goal.invariant-loop-c
invariant-loop-c l = Marking l.initial.w l.from l.end l.mark l.w l.c
