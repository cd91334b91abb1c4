-- `climb::value` meets its contract.
use native.Mathlib.Omega.{arith}
use mathlib.Core.Path.{refl}
use Rattle.walker.proofs.Laws.Reach.{some-lies, some-small, some-depth-is, rises-code, rises-visits}
use Rattle.walker.proofs.Laws.Risen.{value-rose, closed-rose}
use Rattle.walker.proofs.climb.value.Goals as goal

pub slot_of-slot-requires : goal.slot_of-slot-requires
slot_of-slot-requires c = some-small (rises-code c.requires) (c.requires).from.token c.local.ensures

pub word-current-requires : goal.word-current-requires
word-current-requires c =
    let p = c.requires in
    let r = (some-lies (rises-code p)).0.reach in
    omega (arith, c.slot_of-slot.ensures, some-small (rises-code p) p.from.token c.local.ensures, r.low, r.high)

pub overflow_sub-g : goal.overflow_sub-g
overflow_sub-g c = omega (arith, (some-lies (rises-code c.requires)).0.reach.low)

pub at-requires : goal.at-requires
at-requires c = let r = (some-lies (rises-code c.requires)).0.reach in omega (arith, r.low, r.high)

pub overflow_sub-g-then-current-at : goal.overflow_sub-g-then-current-at
overflow_sub-g-then-current-at c = omega (arith, (some-lies (rises-code c.requires)).0.reach.low)

pub at-depth-requires : goal.at-depth-requires
at-depth-requires c = let r = (some-lies (rises-code c.requires)).0.reach in omega (arith, r.low, r.high)

pub put-requires : goal.put-requires
put-requires c =
    let p = c.requires in
    let r = (some-lies (rises-code p)).0.reach in
    omega (arith, c.slot_of-slot.ensures, some-small (rises-code p) p.from.token c.local.ensures, r.low, r.high)

pub resumed-requires : goal.resumed-requires
resumed-requires c = (omega (arith, c.at-depth.ensures, some-depth-is c.requires), rises-visits (c.requires).from.rises)

pub returns-then-current-at : goal.returns-then-current-at
returns-then-current-at c =
    value-rose c.requires refl c.local.ensures c.slot_of-slot.ensures c.word-current.ensures c.at.ensures c.if-current-at.true c.body-b.ensures c.at-depth.ensures c.put.ensures c.resumed.ensures

pub close-requires : goal.close-requires
close-requires c = (rises-code c.requires, (c.requires).from.token)

pub returns : goal.returns
returns c = closed-rose c.requires refl c.local.ensures c.slot_of-slot.ensures c.word-current.ensures c.at.ensures c.if-current-at.false c.close.ensures
