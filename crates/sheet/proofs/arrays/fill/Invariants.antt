-- The invariant: what is laid from the start on is laid from here on. Assumes nothing.
use Rattle.sheet.proofs.ArrayLine.{Filling}
use Rattle.sheet.proofs.arrays.fill.Given as goal

abbrev pub invariant-loop-a : goal.invariant-loop-a
invariant-loop-a l = Filling l.initial.w l.from l.end l.w l.a
