-- `evaluation::pass` meets its contract. The invariant: the stack has the results of the tokens from i on. Assumes nothing.
use Rattle.terms.proofs.Laws.Loop.{Turn}
use Rattle.terms.proofs.evaluation.pass.Given as goal

abbrev pub invariant-loop-i : goal.invariant-loop-i
invariant-loop-i l = Turn l.initial.w l.w l.from l.to l.env l.i l.s
