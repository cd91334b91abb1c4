-- `calls::revalue` meets its contract. The invariant: the parameters passed have their results where they are open. The measure: the tokens
-- left. Assumes nothing.
use Prim.Native.Nat.{◌-◌}
use mathlib.Core.Path.{◌≡◌}
use Rattle.terms.proofs.Laws.Revalue.{CallRead, Round}
use Rattle.terms.proofs.calls.revalue.Given as goal

abbrev pub invariant-loop-i : goal.invariant-loop-i
invariant-loop-i l = CallRead l.initial.w l.p l.number l.to l.env × (l.k ≡ l.p - 1) × Round l.initial.w l.w l.p l.i l.n

abbrev pub decreases-loop-i : goal.decreases-loop-i
decreases-loop-i l = l.to - l.i
