-- The digits from the next one on, read on from `n`, give what the whole gives. Assumes nothing.
use Prim.Native.Nat.{◌≤◌}
use mathlib.Core.Path.{◌≡◌}
use lib.ListN.{drop}
use Rattle.text.specs.Decimal.{capped, read_on}
use Rattle.text.proofs.digits.Given as goal

abbrev pub invariant-loop-b : goal.invariant-loop-b
invariant-loop-b l = (l.n ≤ 4294967296) × (capped (read_on 0 l.s) ≡ capped (read_on l.n (drop l.b-index l.s)))
