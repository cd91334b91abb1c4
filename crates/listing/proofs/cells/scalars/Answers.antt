-- `cells::scalars` meets its contract. Assumes nothing.
use native.Mathlib.Omega.{arith}
use Rattle.listing.specs.Model.{scalar_line}
use Rattle.listing.proofs.Laws.Loop.{turn-first, turn-room, turn-next}
use Rattle.listing.proofs.cells.scalars.Goals as goal

pub loop-i-init : goal.loop-i-init
loop-i-init c = let a = c.args in turn-first (scalar_line a.w.now) a.out.now

pub cell-requires : goal.cell-requires
cell-requires c =
    let a = c.args in
    (omega arith, omega arith, turn-room (scalar_line a.w.now) c.loop-i.i c.loop-i.invariant a.n c.loop-i-test.true c.requires.2)

pub loop-i-preserved : goal.loop-i-preserved
loop-i-preserved c = let a = c.args in turn-next (scalar_line a.w.now) c.loop-i.i c.loop-i.invariant c.cell.ensures
