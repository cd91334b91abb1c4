-- `cells::elements` meets its contract. Assumes nothing.
use native.Mathlib.Omega.{arith}
use Rattle.listing.specs.Model.{element_line}
use Rattle.listing.proofs.Laws.Loop.{turn-first, turn-room, turn-next}
use Rattle.listing.proofs.cells.elements.Goals as goal

pub loop-i-init : goal.loop-i-init
loop-i-init c = let a = c.args in turn-first (element_line a.w.now a.a a.c) a.out.now

pub cell-requires : goal.cell-requires
cell-requires c =
    let a = c.args in
    (omega arith, omega arith, turn-room (element_line a.w.now a.a a.c) c.loop-i.i c.loop-i.invariant a.n c.loop-i-test.true c.requires.2)

pub loop-i-preserved : goal.loop-i-preserved
loop-i-preserved c = let a = c.args in turn-next (element_line a.w.now a.a a.c) c.loop-i.i c.loop-i.invariant c.cell.ensures
