-- `calls::copy` meets its contract. The invariant: which words are there.
use Rattle.walker.specs.Frames.{Copied}
use Rattle.walker.proofs.calls.copy.Given as goal

abbrev pub invariant-loop-i : goal.invariant-loop-i
invariant-loop-i l = Copied l.initial.w l.w l.top l.k l.i
