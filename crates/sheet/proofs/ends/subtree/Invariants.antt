-- Past each operand; the invariant is `Passing`. Assumes nothing.
use Prim.Native.Nat.{◌-◌}
use Rattle.sheet.specs.Ends.{tokens_in}
use Rattle.sheet.proofs.Subtrees.{Passing}
use Rattle.sheet.proofs.ends.subtree.Given as goal

abbrev pub invariant-loop : goal.invariant-loop
invariant-loop l = Passing (tokens_in l.w 0 l.n) l.i l.e (l.end - l.counter)
