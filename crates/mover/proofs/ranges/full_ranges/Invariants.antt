-- The ranges from the place that is reached on are due. Assumes nothing.
use Rattle.mover.specs.Model.{full_ranges}
use Rattle.mover.proofs.Laws.Due.{Due}
use Rattle.mover.proofs.ranges.full_ranges.Given as goal

abbrev pub invariant-loop-after : goal.invariant-loop-after
invariant-loop-after l = Due l.initial.out l.out (full_ranges l.n) (full_ranges l.after)
