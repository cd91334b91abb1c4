-- `calls::outward` meets its contract. Assumes nothing.
use Rattle.terms.proofs.Laws.Chain.{outward-asks, outward-next}
use Rattle.terms.proofs.calls.outward.Goals as goal

pub around-q-requires : goal.around-q-requires
around-q-requires c = outward-asks c.args.w.now _ c.loop.invariant c.loop-test.true c.requires

pub loop-preserved : goal.loop-preserved
loop-preserved c = outward-next c.args.w.now _ c.loop.invariant c.loop-test.true c.around-q.ensures
