-- `climb::end` meets its contract.
use native.Mathlib.Omega.{arith}
use lib.ListN.{length-set}
use Rattle.walker.proofs.Laws.Back.{ended}
use Rattle.walker.proofs.Laws.Reach.{all-lies, all_small}
use Rattle.walker.proofs.climb.end.Goals as goal

pub slot_of-slot-requires : goal.slot_of-slot-requires
slot_of-slot-requires c = all_small c.requires.0 c.requires.1 c.local-l.ensures

pub overflow_sub-g : goal.overflow_sub-g
overflow_sub-g c = omega (arith, (all-lies c.requires.0).0.reach.low)

pub at-had-requires : goal.at-had-requires
at-had-requires c = let r = (all-lies c.requires.0).0.reach in omega (arith, r.low, r.high)

pub overflow_sub-g-2 : goal.overflow_sub-g-2
overflow_sub-g-2 c = omega (arith, (all-lies c.requires.0).0.reach.low)

pub at-old-requires : goal.at-old-requires
at-old-requires c = let r = (all-lies c.requires.0).0.reach in omega (arith, r.low, r.high)

pub overflow_sub-g-3 : goal.overflow_sub-g-3
overflow_sub-g-3 c = omega (arith, (all-lies c.requires.0).0.reach.low)

pub at-last-requires : goal.at-last-requires
at-last-requires c = let r = (all-lies c.requires.0).0.reach in omega (arith, r.low, r.high)

pub set_last-requires : goal.set_last-requires
set_last-requires c =
    let s = all-lies c.requires.0 in
    omega (arith, all_small c.requires.0 c.requires.1 c.local-l.ensures, s.0.reach.low, s.0.reach.high)

pub set_slot-requires : goal.set_slot-requires
set_slot-requires c =
    let s = all-lies c.requires.0 in
    let small = all_small c.requires.0 c.requires.1 c.local-l.ensures in
    rw (c.set_last.ensures, length-set) (omega (arith, c.slot_of-slot.ensures, small, s.0.reach.low, s.0.reach.high))

pub overflow_sub-g-4 : goal.overflow_sub-g-4
overflow_sub-g-4 c = omega (arith, (all-lies c.requires.0).0.reach.low)

pub returns : goal.returns
returns c =
    ended c.requires.1 c.local-l.ensures c.slot_of-slot.ensures c.at-had.ensures c.at-old.ensures c.at-last.ensures c.set_last.ensures c.set_slot.ensures c.dropped.ensures
