-- `listing::writer::digits` meets its contract: the digits counted and those of the number that is left are those of n and one more.
-- Assumes nothing.
use Prim.Native.Nat.{◌+◌}
use mathlib.Core.Path.{◌≡◌}
use lib.ListN.{length}
use Rattle.specification.specs.Number.{printℕ}
use Rattle.listing.proofs.writer.digits.Given as goal

abbrev pub invariant-loop-left : goal.invariant-loop-left
invariant-loop-left l = l.count + length (printℕ l.left) ≡ length (printℕ l.n) + 1

abbrev pub decreases-loop-left : goal.decreases-loop-left
decreases-loop-left l = l.left
