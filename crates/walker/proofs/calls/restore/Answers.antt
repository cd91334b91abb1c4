-- `calls::restore` meets its contract.
use native.Mathlib.Omega.{arith}
use Rattle.walker.proofs.Laws.Restored.{restored-all, refills}
use Rattle.walker.proofs.calls.restore.Goals as goal

pub overflow_add-head : goal.overflow_add-head
overflow_add-head c = omega (arith, c.requires.inside)

pub at-set-requires : goal.at-set-requires
at-set-requires c = omega (arith, c.requires.inside)

pub overflow_add-head-2 : goal.overflow_add-head-2
overflow_add-head-2 c = omega (arith, c.requires.inside)

pub at-back-requires : goal.at-back-requires
at-back-requires c = omega (arith, c.requires.inside)

pub overflow_add-head-3 : goal.overflow_add-head-3
overflow_add-head-3 c = omega (arith, c.requires.inside)

pub at-call-requires : goal.at-call-requires
at-call-requires c = omega (arith, c.requires.inside)

pub reflag-requires : goal.reflag-requires
reflag-requires c = c.requires.reflags

pub set_head-requires : goal.set_head-requires
set_head-requires c =
    let s = c.requires.reflags.slots in
    omega (arith, s.procedure, s.size, c.reflag.ensures.size)

pub refill-requires : goal.refill-requires
refill-requires c =
    refills c.at-set.result c.at-back.result c.at-call.result c.requires c.reflag.ensures
    c.set_head.ensures

pub returns : goal.returns
returns c =
    restored-all c.requires c.at-set.ensures c.at-back.ensures c.at-call.ensures c.reflag.ensures
    c.set_head.ensures c.refill.ensures
