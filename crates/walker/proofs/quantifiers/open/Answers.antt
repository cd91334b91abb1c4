-- `quantifiers::open` meets its contract.
use native.Mathlib.Omega.{arith}
use mathlib.Core.Path.{◌∙◌, ap}
use Rattle.tables.specs.Layout.{local_slot}
use Rattle.search.proofs.Simple.{top-low, top-room, depth_small}
use Rattle.search.proofs.Ranges.{some_near, some-open}
use Rattle.walker.proofs.quantifiers.open.Goals as goal

pub local-requires : goal.local-requires
local-requires c =
    let x = c.requires.0 in
    omega (arith, (some_near x).1, top-low x.at.at.ins, top-room x.at.at.ins)

pub slot_of-slot-requires : goal.slot_of-slot-requires
slot_of-slot-requires c = rw c.local.ensures (some_near c.requires.0).0

pub body-b-requires : goal.body-b-requires
body-b-requires c =
    let x = c.requires.0 in
    omega (arith, (some_near x).1, top-low x.at.at.ins, top-room x.at.at.ins)

pub word-had-requires : goal.word-had-requires
word-had-requires c =
    let x = c.requires.0 in
    omega (arith, (some_near x).0, c.local.ensures, c.slot_of-slot.ensures, top-low x.at.at.ins, top-room x.at.at.ins)

pub word-old-requires : goal.word-old-requires
word-old-requires c =
    let x = c.requires.0 in
    omega (arith, (some_near x).0, c.local.ensures, c.slot_of-slot.ensures, top-low x.at.at.ins, top-room x.at.at.ins)

pub overflow_add-g : goal.overflow_add-g
overflow_add-g c =
    omega (arith, depth_small c.requires.0.at.at.ins)

pub push-requires : goal.push-requires
push-requires c =
    omega (arith, top-room c.requires.0.at.at.ins)

pub set_slot-requires : goal.set_slot-requires
set_slot-requires c =
    let x = c.requires.0 in
    omega (arith, (some_near x).0, c.local.ensures, c.slot_of-slot.ensures, c.push.ensures.size, top-low x.at.at.ins, top-room x.at.at.ins)

pub overflow_add-g-2 : goal.overflow_add-g-2
overflow_add-g-2 c =
    let long = c.well_formed.0.1 in
    omega (arith, top-room c.requires.0.at.at.ins)

pub down-requires : goal.down-requires
down-requires c =
    omega (arith, depth_small c.requires.0.at.at.ins)

pub returns : goal.returns
returns c =
    let words = rw (c.word-had.ensures, c.word-old.ensures) at c.push.ensures in
    let regs = rw c.body-b.ensures at c.down.ensures in
    some-open c.requires.0 c.requires.1 (c.slot_of-slot.ensures ∙ ap local_slot c.local.ensures) words c.set_slot.ensures regs
