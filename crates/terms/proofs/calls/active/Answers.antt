-- `calls::active` meets its contract. The invariant: n calls are passed. The measure: how many more there can be. Assumes nothing.
use native.Mathlib.Omega.{arith}
use Rattle.terms.proofs.Laws.Chain.{passing-asks, passing-few, passing-next, passing-end}
use Rattle.terms.proofs.calls.active.Goals as goal

pub around-q-requires : goal.around-q-requires
around-q-requires c = passing-asks c.loop-q.invariant c.loop-q-test.true c.requires

pub overflow_add-n : goal.overflow_add-n
overflow_add-n c =
    omega (arith, passing-few c.loop-q.invariant c.loop-q-test.true c.requires)

pub loop-q-smaller : goal.loop-q-smaller
loop-q-smaller c =
    omega (arith, passing-few c.loop-q.invariant c.loop-q-test.true c.requires)

pub loop-q-preserved : goal.loop-q-preserved
loop-q-preserved c = passing-next c.loop-q.invariant c.loop-q-test.true c.around-q.ensures

pub returns : goal.returns
returns c = passing-end c.loop-q.invariant c.loop-q-test.false
