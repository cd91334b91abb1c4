-- `calls::settle` meets its contract. The invariant: the calls after the first n are settled. Assumes nothing.
use Rattle.terms.proofs.Laws.Settle.{Settling}
use Rattle.terms.proofs.calls.settle.Given as goal

abbrev pub invariant-loop-n : goal.invariant-loop-n
invariant-loop-n l = Settling l.initial.w l.w l.p l.n
