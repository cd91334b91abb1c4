-- `climb::undo` meets its contract.
use native.Mathlib.Omega.{arith}
use Rattle.walker.proofs.Laws.Back.{undone}
use Rattle.walker.proofs.Laws.Reach.{slot-lies}
use Rattle.walker.proofs.climb.undo.Goals as goal

pub overflow_sub-g : goal.overflow_sub-g
overflow_sub-g c = omega (arith, (slot-lies (c.requires.0)).reach.low)

pub at-old-requires : goal.at-old-requires
at-old-requires c = let r = (slot-lies (c.requires.0)).reach in omega (arith, r.low, r.high)

pub overflow_sub-g-2 : goal.overflow_sub-g-2
overflow_sub-g-2 c = omega (arith, (slot-lies (c.requires.0)).reach.low)

pub at-inner-requires : goal.at-inner-requires
at-inner-requires c = let r = (slot-lies (c.requires.0)).reach in omega (arith, r.low, r.high)

pub set_slot-requires : goal.set_slot-requires
set_slot-requires c = let s = slot-lies (c.requires.0) in omega (arith, s.slot, s.reach.low, s.reach.high, c.requires.1)

pub overflow_sub-g-3 : goal.overflow_sub-g-3
overflow_sub-g-3 c = omega (arith, (slot-lies (c.requires.0)).reach.low)

pub returns : goal.returns
returns c = undone (c.requires.1) (c.at-old.ensures) (c.at-inner.ensures) (c.set_slot.ensures) (c.dropped.ensures)
