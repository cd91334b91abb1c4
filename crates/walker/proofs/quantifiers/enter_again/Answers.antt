-- `quantifiers::enter_again` meets its contract.
use native.Mathlib.Omega.{arith}
use Prim.Native.Nat.{◌+◌}
use mathlib.Core.Path.{sym, ◌∙◌, ap}
use Rattle.tables.specs.Layout.{local_slot, last_at}
use Rattle.search.specs.Records.{at}
use Rattle.search.proofs.Simple.{top-low, top-room, depth_small}
use Rattle.search.proofs.Binders.{again-near, again-none, again-some}
use Rattle.walker.proofs.Laws.Slots.{again-order}
use Rattle.walker.proofs.quantifiers.enter_again.Goals as goal

pub overflow_add-g : goal.overflow_add-g
overflow_add-g c =
    let x = c.requires in
    let i = x.at.ins in
    omega (arith, (again-near x).0, (again-near x).1, (again-near x).2)

pub word-l-requires : goal.word-l-requires
word-l-requires c =
    let x = c.requires in
    let i = x.at.ins in
    omega (arith, (again-near x).0, (again-near x).1, (again-near x).2, top-low i, top-room i)

pub slot_of-slot-requires : goal.slot_of-slot-requires
slot_of-slot-requires c = rw c.word-l.ensures (again-near c.requires).0

pub word-value-requires : goal.word-value-requires
word-value-requires c =
    let x = c.requires in
    let i = x.at.ins in
    omega (arith, (again-near x).0, (again-near x).1, (again-near x).2, c.word-l.ensures, c.slot_of-slot.ensures, top-low i, top-room i)

pub last-requires : goal.last-requires
last-requires c =
    let x = c.requires in
    let i = x.at.ins in
    omega (arith, (again-near x).0, (again-near x).1, (again-near x).2, c.word-l.ensures, top-low i, top-room i)

pub overflow_sub-g : goal.overflow_sub-g
overflow_sub-g c =
    let x = c.requires in
    let i = x.at.ins in
    omega (arith, (again-near x).0, (again-near x).1, (again-near x).2)

pub next-requires : goal.next-requires
next-requires c =
    let x = c.requires in
    let i = x.at.ins in
    omega (arith, (again-near x).0, (again-near x).1, (again-near x).2, top-low i, top-room i)

pub down-requires : goal.down-requires
down-requires c =
    omega (arith, depth_small c.requires.at.ins)

pub returns-then-value-last : goal.returns-then-value-last
returns-then-value-last c =
    let es = c.slot_of-slot.ensures ∙ ap local_slot c.word-l.ensures in
    let same = sym c.word-value.ensures ∙ c.if-value-last.true ∙ c.last.ensures ∙ ap (last_at c.args.w.now) c.word-l.ensures in
    again-none c.requires es same c.next.ensures c.down.ensures

pub next-b-requires : goal.next-b-requires
next-b-requires c =
    let x = c.requires in
    let i = x.at.ins in
    omega (arith, (again-near x).0, (again-near x).1, (again-near x).2, top-low i, top-room i)

pub overflow_add-slot-2 : goal.overflow_add-slot-2
overflow_add-slot-2 c =
    let x = c.requires in
    let i = x.at.ins in
    omega (arith, (again-near x).0, (again-near x).1, (again-near x).2, c.word-l.ensures, c.slot_of-slot.ensures)

pub push-requires : goal.push-requires
push-requires c =
    omega (arith, top-room c.requires.at.ins)

pub overflow_add-value : goal.overflow_add-value
overflow_add-value c =
    let x = c.requires in
    let i = x.at.ins in
    let order = again-order x in
    let last-is = c.last.ensures ∙ ap (last_at c.args.w.now) c.word-l.ensures in
    let slot_is = c.slot_of-slot.ensures ∙ ap local_slot c.word-l.ensures in
    let value-is = c.word-value.ensures ∙ ap (λ s. at c.args.w.now (s + 1)) slot_is in
    omega (arith, c.if-value-last.false, last-is, value-is)

pub set_slot-requires : goal.set_slot-requires
set_slot-requires c =
    let x = c.requires in
    let i = x.at.ins in
    omega (arith, (again-near x).0, (again-near x).1, (again-near x).2, c.word-l.ensures, c.slot_of-slot.ensures, top-low i, top-room i, c.push.ensures.size)

pub overflow_add-g-2 : goal.overflow_add-g-2
overflow_add-g-2 c =
    let long = c.well_formed.0.1 in
    omega (arith, top-room c.requires.at.ins)

pub down-requires-2 : goal.down-requires-2
down-requires-2 c =
    omega (arith, depth_small c.requires.at.ins)

pub returns : goal.returns
returns c =
    let es = c.slot_of-slot.ensures ∙ ap local_slot c.word-l.ensures in
    let last-is = c.last.ensures ∙ ap (last_at c.args.w.now) c.word-l.ensures in
    again-some c.requires es c.word-value.ensures (λ z. c.if-value-last.false (z ∙ sym last-is))
    c.push.ensures c.set_slot.ensures c.next-b.ensures c.down-2.ensures
