-- `calls::settle` meets its contract. Assumes nothing.
use Rattle.terms.proofs.Laws.Settle.{settle-outward, settle-asks, settle-next, settling-end}
use Rattle.terms.proofs.calls.settle.Goals as goal

pub outward-requires : goal.outward-requires
outward-requires c =
    settle-outward c.loop-n.invariant c.loop-n-test.true c.requires

pub revalue-requires : goal.revalue-requires
revalue-requires c =
    settle-asks c.loop-n.invariant c.loop-n-test.true c.outward.ensures c.requires

pub loop-n-preserved : goal.loop-n-preserved
loop-n-preserved c =
    settle-next c.loop-n.invariant c.loop-n-test.true c.outward.ensures c.revalue.ensures

pub returns : goal.returns
returns c = settling-end c.loop-n.invariant c.loop-n-test.false
