-- The invariant: what is laid from the start on is laid from here on. Assumes nothing.
use Rattle.sheet.proofs.ArrayLine.{Reading}
use Rattle.sheet.proofs.arrays.lengths.Given as goal

abbrev pub invariant-loop-n : goal.invariant-loop-n
invariant-loop-n l = Reading l.s l.from l.scalars l.initial.w l.w l.at l.n l.end
