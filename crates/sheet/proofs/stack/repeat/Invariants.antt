-- One entry a turn. Assumes nothing.
use Prim.Native.Nat.{◌+◌, ◌-◌, ◌≤◌}
use Rattle.sheet.specs.Stack.{worded, Repeated}
use Rattle.sheet.proofs.stack.repeat.Given as goal

abbrev pub invariant-loop-i : goal.invariant-loop-i
invariant-loop-i l = (l.n ≤ l.i) × (l.i ≤ l.n + l.count) × Repeated l.initial.w l.w l.n (worded l.e) (l.i - l.n)
