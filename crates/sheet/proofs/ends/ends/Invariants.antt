-- The ends of the tokens from the i-th on are in the table. Assumes nothing.
use mathlib.Core.Path.{◌≡◌}
use Rattle.sheet.proofs.Subtrees.{laid_from}
use Rattle.sheet.proofs.ends.ends.Given as goal

abbrev pub invariant-loop-i : goal.invariant-loop-i
invariant-loop-i l = l.w ≡ laid_from l.initial.w l.n l.i
