-- `machine::head` meets its contract.
use native.Mathlib.Omega.{arith}
use native.Mathlib.Numerals.{add-one}
use borrow.Author.Tests.{eq-eqb, ne_eqb}
use Rattle.tables.specs.Leaves.{success_place}
use Rattle.walker.specs.Blocks.{head_due}
use Rattle.walker.proofs.machine.head.Goals as goal

pub overflow_add-result : goal.overflow_add-result
overflow_add-result c =
    omega (arith, c.requires.leaf.leaves)

pub returns-then-g-eq-SUCCESS : goal.returns-then-g-eq-SUCCESS
unfolding head_due
returns-then-g-eq-SUCCESS c = rw (eq-eqb _ success_place c.if-g-eq-SUCCESS.true, add-one)

pub overflow_add-result-2 : goal.overflow_add-result-2
overflow_add-result-2 c =
    omega (arith, c.requires.leaf.leaves)

pub kind-requires : goal.kind-requires
kind-requires c =
    omega (arith, c.requires.size)

pub token-requires : goal.token-requires
token-requires c =
    omega (arith, c.requires.size)

pub returns : goal.returns
unfolding head_due
returns c =
    rw (ne_eqb _ success_place c.if-g-eq-SUCCESS.false, add-one c.args.g.tallies.errors, c.kind.ensures, c.token.ensures)
