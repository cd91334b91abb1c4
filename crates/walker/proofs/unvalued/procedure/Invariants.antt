-- `unvalued::procedure` meets its contract. The invariant: no parameter stands in the tokens passed.
use Rattle.walker.specs.Terms.{NoneIn}
use Rattle.walker.proofs.unvalued.procedure.Given as goal

abbrev pub invariant-loop-i : goal.invariant-loop-i
invariant-loop-i l = NoneIn l.w l.from l.i
