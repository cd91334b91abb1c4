-- `climb::climb` meets its contract.
use mathlib.Core.Path.{◌≡◌}
use lib.ListN.{length}
use Rattle.walker.proofs.Laws.Risen.{Climbs, level}
use Rattle.walker.proofs.climb.climb.Given as goal

abbrev pub invariant-loop-setting : goal.invariant-loop-setting
invariant-loop-setting l = Climbs l.initial.w l.w l.initial.q l.q l.setting × (length l.w ≡ length l.initial.w)

abbrev pub decreases-loop-setting : goal.decreases-loop-setting
decreases-loop-setting l = level l.q
