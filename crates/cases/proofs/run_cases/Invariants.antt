-- `cases::run_cases` is safe and ends: each turn counts one case and leaves fewer bytes of them.
use Prim.Native.Nat.{◌+◌, ◌≤◌}
use lib.ListN.{length}
use Rattle.cases.proofs.run_cases.Given as goal

abbrev pub invariant-loop-cases : goal.invariant-loop-cases
invariant-loop-cases g l = l.n + length l.cases ≤ length l.input

abbrev pub decreases-loop-cases : goal.decreases-loop-cases
decreases-loop-cases g l = length l.cases
