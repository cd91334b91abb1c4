-- `cells::arrays` meets its contract. Assumes nothing.
use native.Mathlib.Omega.{arith}
use Rattle.listing.specs.Model.{array_lines}
use Rattle.listing.proofs.Laws.Loop.{turn-first, turn-room, turn-next}
use Rattle.listing.proofs.cells.arrays.Goals as goal

pub loop-a-init : goal.loop-a-init
loop-a-init c = let a = c.args in turn-first (array_lines a.w.now) a.out.now

pub array-requires : goal.array-requires
array-requires c =
    let a = c.args in
    (c.requires.0.size, omega arith, c.requires.0.spans c.loop-a.a c.loop-a-test.true, turn-room (array_lines a.w.now) c.loop-a.a c.loop-a.invariant a.n c.loop-a-test.true c.requires.1)

pub loop-a-preserved : goal.loop-a-preserved
loop-a-preserved c = let a = c.args in turn-next (array_lines a.w.now) c.loop-a.a c.loop-a.invariant c.array.ensures
