-- `calls::flag` meets its contract. The invariant: which words are there.
use Rattle.walker.specs.Frames.{Flagged}
use Rattle.walker.proofs.calls.flag.Given as goal

abbrev pub invariant-loop-i : goal.invariant-loop-i
invariant-loop-i l = Flagged l.initial.w l.w l.k l.set l.i
