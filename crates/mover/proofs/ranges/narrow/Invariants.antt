-- Up to the place that is reached every range is full. Assumes nothing.
use mathlib.Core.Path.{◌≡◌}
use lib.ListN.{drop}
use Rattle.mover.specs.Model.{narrow_place}
use Rattle.mover.proofs.ranges.narrow.Given as goal

abbrev pub invariant-loop-after : goal.invariant-loop-after
invariant-loop-after l = narrow_place l.at l.n (drop l.at l.s) ≡ narrow_place l.p l.after (drop l.p l.s)
