-- `unvalued::equate` meets its contract.
use Rattle.walker.proofs.Laws.Decided.{tag-bare, tags-small, assigns-left, assigns-right, eq-left-errs, eq-right-errs, eq-bare-errs}
use Rattle.walker.proofs.unvalued.equate.Goals as goal

pub err-requires : goal.err-requires
err-requires c =
    eq-left-errs c.requires.decides c.if-s-eq-ERROR.true

pub err-requires-then-s-eq-ERROR-2 : goal.err-requires-then-s-eq-ERROR-2
err-requires-then-s-eq-ERROR-2 c =
    eq-right-errs c.requires.decides c.if-s-eq-ERROR.false c.if-s-eq-ERROR-2.true

pub assign-requires : goal.assign-requires
assign-requires c =
    let x = c.requires in
    let l = c.if-s-eq-VALUE.true in
    assigns-right x.decides l (tag-bare _ (tags-small x.decides).1 (λ e. x.other l e) c.if-s-eq-ERROR-2.false)

pub assign-requires-then-s-eq-VALUE-2 : goal.assign-requires-then-s-eq-VALUE-2
assign-requires-then-s-eq-VALUE-2 c =
    let x = c.requires in assigns-left x.decides (tag-bare _ (tags-small x.decides).0 c.if-s-eq-VALUE.false c.if-s-eq-ERROR.false) c.if-s-eq-VALUE-2.true

pub err-requires-2 : goal.err-requires-2
err-requires-2 c =
    let d = c.requires.decides in
    let t = tags-small d in
    eq-bare-errs d (tag-bare _ t.0 c.if-s-eq-VALUE.false c.if-s-eq-ERROR.false) (tag-bare _ t.1 c.if-s-eq-VALUE-2.false c.if-s-eq-ERROR-2.false)
