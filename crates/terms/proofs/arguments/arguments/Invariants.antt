-- `arguments::arguments` meets its contract. The invariant: the arguments passed have their slots. The measure: the tokens left. Assumes nothing.
use Prim.Native.Nat.{◌-◌}
use Rattle.terms.proofs.Laws.Filling.{Filling}
use Rattle.terms.proofs.arguments.arguments.Given as goal

abbrev pub invariant-loop-i : goal.invariant-loop-i
invariant-loop-i l = Filling l.initial.w l.w l.h l.k l.env l.to l.i l.n l.set

abbrev pub decreases-loop-i : goal.decreases-loop-i
decreases-loop-i l = l.to - l.i
