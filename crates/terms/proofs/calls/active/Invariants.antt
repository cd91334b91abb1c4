-- `calls::active` meets its contract. The invariant: n calls are passed. The measure: how many more there can be. Assumes nothing.
use Prim.Native.Nat.{◌-◌}
use Rattle.tables.specs.Layout.{max_procs}
use Rattle.terms.proofs.Laws.Chain.{Passing}
use Rattle.terms.proofs.calls.active.Given as goal

abbrev pub invariant-loop-q : goal.invariant-loop-q
invariant-loop-q l = Passing l.w l.p l.n l.q

abbrev pub decreases-loop-q : goal.decreases-loop-q
decreases-loop-q l = max_procs - l.n
