-- `calls::save` meets its contract.
use native.Mathlib.Omega.{arith}
use mathlib.Core.Path.{◌∙◌}
use Rattle.walker.proofs.Laws.Saved.{saved}
use Rattle.walker.proofs.calls.save.Goals as goal

pub copy-requires : goal.copy-requires
copy-requires c = c.requires

pub overflow_add-head : goal.overflow_add-head
overflow_add-head c =
    omega (arith, c.requires.few, c.requires.room, c.copy.ensures.size)

pub tags-tags-requires : goal.tags-tags-requires
tags-tags-requires c =
    omega (arith, c.requires.procedure, c.requires.low, c.requires.room, c.copy.ensures.size)

pub back-back-requires : goal.back-back-requires
back-back-requires c =
    omega (arith, c.requires.procedure, c.requires.low, c.requires.room, c.copy.ensures.size)

pub call-call-requires : goal.call-call-requires
call-call-requires c =
    omega (arith, c.requires.procedure, c.requires.low, c.requires.room, c.copy.ensures.size)

pub push-requires : goal.push-requires
push-requires c =
    omega (arith, c.requires.few, c.requires.room, c.copy.ensures.size)

pub overflow_add-result : goal.overflow_add-result
overflow_add-result c =
    omega (arith, c.requires.few, c.requires.room, c.copy.ensures.size, c.push.ensures.size)

pub shape_of-w : goal.shape_of-w
shape_of-w c =
    c.push.ensures.size ∙ c.copy.ensures.size

pub returns : goal.returns
returns c =
    saved c.requires c.copy.ensures c.push.ensures c.tags-tags.ensures c.back-back.ensures
    c.call-call.ensures
