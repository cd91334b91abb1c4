-- `advance::advance` meets its contract: a visit is due, or the loop is left.
use Prim.Native.Nat.{◌≤◌}
use mathlib.Core.Path.{◌≡◌}
use lib.ListN.{length}
use Rattle.specification.specs.Bytes.{Bytes}
use Rattle.search.specs.Path.{World}
use Rattle.search.specs.Registers.{tallied}
use Rattle.search.specs.Climb.{Set}
use Rattle.walker.specs.Loop.{Going}
use Rattle.walker.proofs.Laws.Loops.{turns}
use Rattle.walker.proofs.advance.advance.Given as goal

abbrev pub invariant-loop-setting : goal.invariant-loop-setting
invariant-loop-setting l =
    (length l.w ≡ length l.initial.w) × ((tallied l.initial.q).nodes ≤ (tallied l.q).nodes) × ((c : World) (b : Bytes) → Set c l.setting → Going c b l.initial.w l.initial.q → Going c b l.w l.q)

abbrev pub decreases-loop-setting : goal.decreases-loop-setting
decreases-loop-setting l = turns l.setting.budget l.q
