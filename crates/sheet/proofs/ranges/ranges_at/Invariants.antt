-- The invariant: for every sheet whose arrays the words have, what is laid from the start on is laid from here on. Assumes nothing.
use Rattle.sheet.proofs.RangeLine.{Turning}
use Rattle.sheet.proofs.ranges.ranges_at.Given as goal

abbrev pub invariant-loop-k : goal.invariant-loop-k
invariant-loop-k l = Turning l.s l.from l.d.scalars l.d.arrays l.initial.w l.w l.at l.k
