-- `calls::outward` meets its contract. The invariant: q points to what is as many calls further out as were passed. Assumes nothing.
use Rattle.terms.specs.Calls.{Reached}
use Rattle.terms.proofs.calls.outward.Given as goal

abbrev pub invariant-loop : goal.invariant-loop
invariant-loop l = Reached l.w l.p l.counter l.q
