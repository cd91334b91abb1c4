-- `machine::walk` meets its contract: in the world of each sheet that the tables hold, the walk has come to where its run is.
use mathlib.Core.Path.{◌≡◌}
use lib.ListN.{length}
use Rattle.specification.specs.Sheet.{Sheet}
use Rattle.sheet.specs.Tables.{Words}
use Rattle.walker.specs.Walked.{Prepared}
use Rattle.walker.proofs.Laws.Started.{Reached}
use Rattle.walker.proofs.Laws.Started.{leaves_left}
use Rattle.walker.proofs.machine.walk.Given as goal

abbrev pub invariant-loop-task : goal.invariant-loop-task
invariant-loop-task l =
    (length l.w ≡ length l.initial.w) × (length l.out ≡ length l.initial.out)
    × ((v : Words) (x : Sheet) → Prepared v l.task x → Reached v l.initial.out l.task x l.initial.w l.initial.out l.initial.s → Reached v l.initial.out l.task x l.w l.out l.s)

abbrev pub decreases-loop-task : goal.decreases-loop-task
decreases-loop-task l = leaves_left l.task.setting.budget l.s
