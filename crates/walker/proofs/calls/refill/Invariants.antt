-- `calls::refill` meets its contract. The invariant: which words are there.
use Rattle.walker.specs.Frames.{Refilled}
use Rattle.walker.proofs.calls.refill.Given as goal

abbrev pub invariant-loop-i : goal.invariant-loop-i
invariant-loop-i l = Refilled l.initial.w l.w l.k l.from l.i
