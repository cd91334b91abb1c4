-- The ranges from the place that is reached on are due. Assumes nothing.
use Prim.Native.Nat.{◌-◌}
use mathlib.Core.List.{◌++◌}
use mathlib.Core.Path.{◌≡◌}
use native.Mathlib.Omega.{arith}
use Rattle.mover.specs.Model.{full_ranges}
use Rattle.mover.proofs.Laws.Ranges.{marked, full-none, full-more}
use Rattle.mover.proofs.Laws.Due.{due-all, due-next, due-room, due_none}
use Rattle.mover.proofs.ranges.full_ranges.Goals as goal
use Rattle.mover.proofs.ranges.full_ranges.Goals.{In-loop-after}

-- the range that is put, and those after it
parted : (c : In-loop-after) →
    let n = c.loop-after.after in
    full_ranges n ≡ marked (n - 1) ++ full_ranges (n - 1)
parted c = let n = c.loop-after.after in full-more n (n - 1) (omega (arith, c.loop-after-test.true))

pub loop-after-init : goal.loop-after-init
loop-after-init c = due-all c.args.out.now (full_ranges c.args.n)

pub text-requires : goal.text-requires
text-requires c =
    let n = c.loop-after.after in
    rw c.full.ensures (due-room c.loop-after.invariant (marked (n - 1)) (full_ranges (n - 1)) (parted (goal.at.text-requires c).In-loop-after) c.requires)

pub loop-after-preserved : goal.loop-after-preserved
loop-after-preserved c =
    let n = c.loop-after.after in
    due-next c.loop-after.invariant (marked (n - 1)) (full_ranges (n - 1)) (parted (goal.at.loop-after-preserved c).In-loop-after)
    (rw c.full.ensures at c.text.ensures)

pub returns : goal.returns
returns c = due_none c.loop-after.invariant (full-none c.loop-after.after (omega arith))
