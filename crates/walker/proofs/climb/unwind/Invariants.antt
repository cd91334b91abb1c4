-- `climb::unwind` meets its contract.
use lib.ListN.{length}
use mathlib.Core.Path.{◌≡◌}
use Rattle.walker.proofs.Laws.Released.{Unwinds}
use Rattle.walker.proofs.climb.unwind.Given as goal

abbrev pub invariant-loop-w : goal.invariant-loop-w
invariant-loop-w l = Unwinds l.initial.w l.w l.initial.q l.q l.x × (length l.w ≡ length l.initial.w)

abbrev pub decreases-loop-w : goal.decreases-loop-w
decreases-loop-w l = l.q.top
