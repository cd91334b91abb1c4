-- `connectives::enter_or` meets its contract.
use native.Mathlib.Omega.{arith}
use Rattle.search.proofs.Simple.{or-near, or-down, top-room, depth_small}
use Rattle.walker.proofs.connectives.enter_or.Goals as goal

pub overflow_add-g : goal.overflow_add-g
overflow_add-g c = omega (arith, depth_small c.requires.at.ins)

pub push-requires : goal.push-requires
push-requires c = omega (arith, top-room c.requires.at.ins)

pub overflow_add-g-2 : goal.overflow_add-g-2
overflow_add-g-2 c = omega (arith, or-near c.requires)

pub overflow_add-g-3 : goal.overflow_add-g-3
overflow_add-g-3 c =
    omega (arith, top-room c.requires.at.ins, c.push.ensures.size)

pub down-requires : goal.down-requires
down-requires c = omega (arith, depth_small c.requires.at.ins)

pub returns : goal.returns
returns c =
    or-down c.requires c.push.ensures c.down.ensures
