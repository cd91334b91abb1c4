-- `unvalued::lacks` meets its contract.
use Rattle.walker.proofs.Laws.Decided.{left-errs, right-errs}
use Rattle.walker.proofs.unvalued.lacks.Goals as goal

pub equate-requires : goal.equate-requires
equate-requires c = rw c.if-code-eq-EQ.true at c.requires

pub err-requires : goal.err-requires
err-requires c =
    rw c.kind_of.ensures (left-errs c.requires.decides c.if-code-eq-EQ.false c.if-s-ne-VALUE.true)

pub err-requires-2 : goal.err-requires-2
err-requires-2 c =
    let x = c.requires in let l = c.if-s-ne-VALUE.false in rw c.kind_of-2.ensures (right-errs x.decides c.if-code-eq-EQ.false l (λ e. x.other l e))
