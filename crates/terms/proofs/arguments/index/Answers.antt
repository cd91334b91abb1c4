-- `arguments::index` meets its contract. Assumes nothing.
use mathlib.Core.Path.{refl}
use native.Mathlib.Omega.{arith}
use Rattle.terms.proofs.Laws.Indexed.{index-inside, index-elements, index-gives}
use Rattle.terms.proofs.arguments.index.Goals as goal

pub word-requires : goal.word-requires
word-requires c = omega (arith, index-inside c.requires)

pub overflow_add-s : goal.overflow_add-s
overflow_add-s c = omega (arith, index-inside c.requires)

pub word-requires-2 : goal.word-requires-2
word-requires-2 c = omega (arith, index-inside c.requires)

pub element-e-requires : goal.element-e-requires
element-e-requires c = index-elements c.requires c.operand.ensures

pub returns : goal.returns
returns c =
    index-gives c.requires c.word.ensures c.if-word-eq0.false c.word-2.ensures c.operand.ensures refl refl
    c.element-e.ensures c.give.ensures
