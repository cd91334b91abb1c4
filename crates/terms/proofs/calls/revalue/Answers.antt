-- `calls::revalue` meets its contract. The invariant: the parameters passed have their results where they are open. The measure: the tokens
-- left. Assumes nothing.
use native.Mathlib.Omega.{arith}
use Rattle.terms.proofs.Laws.Revalue.{read-end, read-few, read-token, read-asks, read_next}
use Rattle.terms.proofs.calls.revalue.Goals as goal

pub revalue_one-requires : goal.revalue_one-requires
revalue_one-requires c =
    rw c.loop-i.invariant.1 (read-asks c.loop-i.invariant.0 c.loop-i.invariant.2 c.loop-i-test.true c.end-e.ensures)

pub overflow_add-n : goal.overflow_add-n
overflow_add-n c =
    omega (arith, read-few c.loop-i.invariant.0 c.loop-i.invariant.2 c.loop-i-test.true)

pub loop-i-smaller : goal.loop-i-smaller
loop-i-smaller c =
    omega
    (arith, read-token c.loop-i.invariant.0 c.loop-i.invariant.2 c.loop-i-test.true, c.end-e.ensures, c.loop-i-test.true)

pub loop-i-preserved : goal.loop-i-preserved
loop-i-preserved c =
    let done = rw c.loop-i.invariant.1 at c.revalue_one.ensures in
    let next = read_next c.loop-i.invariant.0 c.loop-i.invariant.2 c.loop-i-test.true c.end-e.ensures done in
    (c.loop-i.invariant.0, c.loop-i.invariant.1, next)

pub returns : goal.returns
returns c = read-end c.loop-i.invariant.0 c.loop-i.invariant.2 c.loop-i-test.false
