-- `atoms::assign` meets its contract.
use mathlib.Core.Path.{sym, ◌∙◌}
use native.Mathlib.Omega.{arith}
use Rattle.search.proofs.Simple.{due-near, top-room, depth_small}
use Rattle.walker.proofs.Laws.Assigned.{slot-near, assign-fails, assign-down}
use Rattle.walker.proofs.atoms.assign.Goals as goal

pub overflow_add-slot : goal.overflow_add-slot
overflow_add-slot c = omega (arith, (slot-near c.requires).0)

pub word-mark-requires : goal.word-mark-requires
word-mark-requires c = let z = slot-near c.requires in omega (arith, z.0, z.1)

pub allows-requires : goal.allows-requires
allows-requires c =
    omega (arith, (slot-near c.requires).1)

pub fail-requires : goal.fail-requires
fail-requires c =
    assign-fails c.requires (rw c.word-mark.ensures at (sym c.allows.ensures ∙ c.if-not-allows.true))

pub next-next-requires : goal.next-next-requires
next-next-requires c =
    due-near c.requires.at.ins

pub push-requires : goal.push-requires
push-requires c =
    omega (arith, top-room c.requires.at.ins)

pub set_slot-requires : goal.set_slot-requires
set_slot-requires c =
    let z = slot-near c.requires in omega (arith, z.0, z.1, c.push.ensures.size)

pub overflow_add-g : goal.overflow_add-g
overflow_add-g c =
    omega (arith, top-room c.requires.at.ins, c.push.ensures.size)

pub down-requires : goal.down-requires
down-requires c =
    omega (arith, depth_small c.requires.at.ins)

pub returns : goal.returns
returns c =
    let mark = c.word-mark.ensures in
    assign-down c.requires (rw mark at (sym c.allows.ensures ∙ c.if-not-allows.false)) (rw mark at c.push.ensures)
    c.set_slot.ensures (rw mark at c.after_given.ensures) (rw c.next-next.ensures at c.down.ensures)
