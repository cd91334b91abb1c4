-- One token a turn; the invariant is `Reading`. Assumes nothing.
use Prim.Native.Nat.{◌-◌, ◌≤◌}
use lib.ListN.{length}
use Rattle.specification.specs.Formula.{Locals}
use Rattle.tables.specs.Layout.{max_tokens, path_at}
use Rattle.sheet.specs.Stack.{Bits}
use Rattle.sheet.specs.FormulaLine.{Sized, begin}
use Rattle.sheet.proofs.Loop.{Reading}
use Rattle.sheet.proofs.formula.scan.Given as goal

abbrev pub invariant-loop-reason : goal.invariant-loop-reason
invariant-loop-reason l =
    ((B : Locals) → Bits l.x.bound B → Reading (begin l.s l.d l.x.at l.x.tokens B) l.initial.w l.w l.n l.count l.bound l.at l.word) × (path_at ≤ length l.initial.w) × Sized l.d l.initial.w

abbrev pub decreases-loop-reason : goal.decreases-loop-reason
decreases-loop-reason l = max_tokens - l.count
