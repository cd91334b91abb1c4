-- Up to the place that is reached no word rounds down. Assumes nothing.
use mathlib.Core.Path.{◌≡◌}
use lib.ListN.{drop}
use Rattle.mover.specs.Model.{rounding_place}
use Rattle.mover.proofs.words.rounding.Given as goal

abbrev pub invariant-loop-i : goal.invariant-loop-i
invariant-loop-i l = rounding_place l.at (drop l.at l.s) ≡ rounding_place l.i (drop l.i l.s)
