-- One line a turn, as long as one follows: what was read stands in the words. Assumes nothing.
use Prim.Native.Nat.{◌-◌}
use mathlib.Core.Path.{◌≡◌}
use lib.ListN.{length}
use Rattle.tables.specs.Layout.{max_procs}
use Rattle.sheet.specs.Whole.{Filled, left_lines}
use Rattle.sheet.proofs.procedures.procedure_lines.Given as goal

abbrev pub invariant-loop-w : goal.invariant-loop-w
invariant-loop-w l = (l.q.limits.strict ≡ l.initial.q.limits.strict) × Filled (left_lines l.q.limits) l.s (length l.w) l.q l.w

abbrev pub decreases-loop-w : goal.decreases-loop-w
decreases-loop-w l = max_procs - l.q.limits.procedures
