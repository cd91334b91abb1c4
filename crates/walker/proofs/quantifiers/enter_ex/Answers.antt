-- `quantifiers::enter_ex` meets its contract.
use native.Mathlib.Omega.{arith}
use mathlib.Core.Path.{◌∙◌, ap}
use Rattle.tables.specs.Layout.{local_slot}
use Rattle.search.proofs.Simple.{top-low, top-room, depth_small}
use Rattle.search.proofs.Binders.{ex-local, ex-near, ex-down}
use Rattle.walker.proofs.Laws.Slots.{flag_small}
use Rattle.walker.proofs.quantifiers.enter_ex.Goals as goal

pub local-requires : goal.local-requires
local-requires c =
    let x = c.requires in
    omega (arith, (ex-near x).1, top-low x.at.ins, top-room x.at.ins)

pub slot_of-slot-requires : goal.slot_of-slot-requires
slot_of-slot-requires c = rw c.local.ensures (ex-local c.requires)

pub keep-requires : goal.keep-requires
keep-requires c =
    let x = c.requires in
    let i = x.at.ins in
    let low = top-low i in
    let room = top-room i in
    let small = ex-local x in
    let slot_is = c.slot_of-slot.ensures ∙ ap local_slot c.local.ensures in
    (omega arith, omega (arith, slot_is), rw slot_is (flag_small i _ small), omega arith)

pub overflow_add-g : goal.overflow_add-g
overflow_add-g c =
    omega (arith, depth_small c.requires.at.ins)

pub set_slot-requires : goal.set_slot-requires
set_slot-requires c =
    let x = c.requires in
    let i = x.at.ins in
    omega (arith, ex-local x, c.local.ensures, c.slot_of-slot.ensures, c.keep.ensures.size, top-low i, top-room i)

pub overflow_add-g-2 : goal.overflow_add-g-2
overflow_add-g-2 c =
    omega (arith, (ex-near c.requires).0)

pub overflow_add-g-3 : goal.overflow_add-g-3
overflow_add-g-3 c =
    let long = c.well_formed.0.1 in
    omega (arith, top-room c.requires.at.ins)

pub down-requires : goal.down-requires
down-requires c =
    omega (arith, depth_small c.requires.at.ins)

pub returns : goal.returns
returns c =
    ex-down c.requires (c.slot_of-slot.ensures ∙ ap local_slot c.local.ensures) c.keep.ensures c.set_slot.ensures c.down.ensures
