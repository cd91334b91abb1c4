-- `arguments::bind` meets its contract. Assumes nothing.
use Rattle.terms.proofs.Laws.Slots.{binds-inside, bind-value, bind-low}
use native.Mathlib.Omega.{arith}
use Rattle.terms.proofs.arguments.bind.Goals as goal

pub word-requires : goal.word-requires
word-requires c = omega (arith, binds-inside c.requires)

pub overflow_add-s : goal.overflow_add-s
overflow_add-s c =
    omega (arith, binds-inside c.requires)

pub word-requires-then-word-ne0 : goal.word-requires-then-word-ne0
word-requires-then-word-ne0 c =
    omega (arith, binds-inside c.requires)

pub returns-then-word-ne0 : goal.returns-then-word-ne0
returns-then-word-ne0 c =
    bind-value c.requires c.word.ensures c.if-word-ne0.true c.word-then-word-ne0.ensures c.value.ensures

pub returns-then-s : goal.returns-then-s
returns-then-s c =
    bind-low c.requires c.word.ensures c.if-word-ne0.false c.if-s.true c.other.ensures
