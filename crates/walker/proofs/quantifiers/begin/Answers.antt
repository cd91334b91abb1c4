-- `quantifiers::begin` meets its contract.
use native.Mathlib.Omega.{arith}
use mathlib.Core.Path.{ap}
use lib.ListN.{length, length-set}
use Rattle.search.proofs.Simple.{top-low, top-room, depth_small}
use Rattle.search.proofs.Ranges.{all_near, all-begin}
use Rattle.walker.proofs.Laws.Slots.{lasts-pushed}
use Rattle.walker.proofs.quantifiers.begin.Goals as goal

pub local-l-requires : goal.local-l-requires
local-l-requires c =
    let x = c.requires.0 in
    let i = x.at.at.ins in
    omega (arith, (all_near x).1, top-low i, top-room i)

pub slot_of-slot-requires : goal.slot_of-slot-requires
slot_of-slot-requires c = rw c.local-l.ensures (all_near c.requires.0).0

pub body-b-requires : goal.body-b-requires
body-b-requires c =
    let x = c.requires.0 in
    let i = x.at.at.ins in
    omega (arith, (all_near x).1, top-low i, top-room i)

pub word-had-requires : goal.word-had-requires
word-had-requires c =
    let x = c.requires.0 in
    let i = x.at.at.ins in
    omega (arith, (all_near x).0, c.local-l.ensures, c.slot_of-slot.ensures, top-low i, top-room i)

pub word-old-requires : goal.word-old-requires
word-old-requires c =
    let x = c.requires.0 in
    let i = x.at.at.ins in
    omega (arith, (all_near x).0, c.local-l.ensures, c.slot_of-slot.ensures, top-low i, top-room i)

pub last-last-requires : goal.last-last-requires
last-last-requires c =
    let x = c.requires.0 in
    let i = x.at.at.ins in
    omega (arith, (all_near x).0, c.local-l.ensures, top-low i, top-room i)

pub push-requires : goal.push-requires
push-requires c =
    omega (arith, top-room c.requires.0.at.at.ins)

pub set_last-requires : goal.set_last-requires
set_last-requires c =
    let x = c.requires.0 in
    let i = x.at.at.ins in
    omega (arith, (all_near x).0, c.local-l.ensures, c.push.ensures.size, top-low i, top-room i)

pub set_slot-requires : goal.set_slot-requires
set_slot-requires c =
    let x = c.requires.0 in
    let i = x.at.at.ins in
    let size = simp length-set at (ap length c.set_last.ensures) in
    omega (arith, (all_near x).0, c.local-l.ensures, c.slot_of-slot.ensures, size, c.push.ensures.size, top-low i, top-room i)

pub overflow_add-g : goal.overflow_add-g
overflow_add-g c =
    let long = c.well_formed.0.1 in
    omega (arith, top-room c.requires.0.at.at.ins)

pub down-requires : goal.down-requires
down-requires c =
    omega (arith, depth_small c.requires.0.at.at.ins)

pub returns : goal.returns
returns c =
    let x = c.requires.0 in
    let i = x.at.at.ins in
    let words = rw (c.word-had.ensures, c.word-old.ensures, c.last-last.ensures) at c.push.ensures in
    let regs = rw c.body-b.ensures at c.down.ensures in
    let low = top-low i in
    let room = top-room i in
    let lasts = lasts-pushed words c.local-l.result c.args.high (rw c.local-l.ensures (all_near x).0) (omega arith) c.set_last.ensures in
    all-begin x c.requires.1 c.local-l.ensures c.slot_of-slot.ensures words lasts c.set_slot.ensures regs
