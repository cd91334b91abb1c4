-- The lines that are left begin at p. Assumes nothing.
use Prim.Native.Nat.{◌+◌, ◌-◌, ◌≤◌}
use mathlib.Core.Path.{◌≡◌}
use lib.ListN.{length, drop}
use Rattle.mover.specs.Model.{lines_length}
use Rattle.mover.proofs.lines.lines_end.Given as goal

abbrev pub invariant-loop-line : goal.invariant-loop-line
invariant-loop-line l = (l.p ≤ length l.s) × (l.p + lines_length (l.n - l._line) (drop l.p l.s) ≡ lines_length l.n l.s)
