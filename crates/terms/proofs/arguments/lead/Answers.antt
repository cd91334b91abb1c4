-- `arguments::lead` meets its contract. Assumes nothing.
use Rattle.terms.proofs.Laws.Slots.{binds-inside, leads-low, leads-place}
use native.Mathlib.Omega.{arith}
use Rattle.terms.proofs.arguments.lead.Goals as goal

pub overflow_add-s : goal.overflow_add-s
overflow_add-s c = omega (arith, binds-inside c.requires.binds)

pub word-p-requires : goal.word-p-requires
word-p-requires c = omega (arith, binds-inside c.requires.binds)

pub place-requires : goal.place-requires
place-requires c =
    (leads-low c.requires c.word-p.ensures c.if-p-ne-OPEN.true, (binds-inside c.requires.binds).1, c.requires.binds.argues.room)

pub returns-then-p-ne-OPEN : goal.returns-then-p-ne-OPEN
returns-then-p-ne-OPEN c =
    leads-place c.requires c.word-p.ensures c.if-p-ne-OPEN.true c.place.ensures
