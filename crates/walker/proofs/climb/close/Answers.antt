-- `climb::close` meets its contract.
use native.Mathlib.Omega.{arith}
use Rattle.walker.proofs.Laws.Back.{closed}
use Rattle.walker.proofs.Laws.Reach.{some-lies, some-small}
use Rattle.walker.proofs.climb.close.Goals as goal

pub slot_of-slot-requires : goal.slot_of-slot-requires
slot_of-slot-requires c = rw (c.local.ensures, c.requires.1) (some-lies (c.requires.0)).1

pub overflow_sub-g : goal.overflow_sub-g
overflow_sub-g c = omega (arith, (some-lies (c.requires.0)).0.reach.low)

pub at-had-requires : goal.at-had-requires
at-had-requires c = let r = (some-lies (c.requires.0)).0.reach in omega (arith, r.low, r.high)

pub overflow_sub-g-2 : goal.overflow_sub-g-2
overflow_sub-g-2 c = omega (arith, (some-lies (c.requires.0)).0.reach.low)

pub at-old-requires : goal.at-old-requires
at-old-requires c = let r = (some-lies (c.requires.0)).0.reach in omega (arith, r.low, r.high)

pub set_slot-requires : goal.set_slot-requires
set_slot-requires c =
    let s = some-lies c.requires.0 in
    omega (arith, c.slot_of-slot.ensures, some-small c.requires.0 c.requires.1 c.local.ensures, s.0.reach.low, s.0.reach.high)

pub overflow_sub-g-3 : goal.overflow_sub-g-3
overflow_sub-g-3 c = omega (arith, (some-lies (c.requires.0)).0.reach.low)

pub returns : goal.returns
returns c = closed (c.requires.1) (c.local.ensures) (c.slot_of-slot.ensures) (c.at-had.ensures) (c.at-old.ensures) (c.set_slot.ensures) (c.dropped.ensures)
