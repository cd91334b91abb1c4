-- `inner::enter_inner` meets its contract.
use native.Mathlib.Omega.{arith}
use Rattle.search.proofs.Simple.{top-room, depth_small}
use Rattle.walker.proofs.Laws.Asking.{asking-visited, asking-near, asking-down}
use Rattle.walker.proofs.inner.enter_inner.Goals as goal

pub overflow_add-g : goal.overflow_add-g
overflow_add-g c = omega (arith, depth_small (asking-visited c.requires).ins)

pub push-requires : goal.push-requires
push-requires c = omega (arith, top-room (asking-visited c.requires).ins)

pub overflow_add-g-2 : goal.overflow_add-g-2
overflow_add-g-2 c = omega (arith, asking-near c.requires)

pub overflow_add-g-3 : goal.overflow_add-g-3
overflow_add-g-3 c =
    omega (arith, top-room (asking-visited c.requires).ins, c.push.ensures.size)

pub overflow_add-g-4 : goal.overflow_add-g-4
overflow_add-g-4 c =
    omega (arith, depth_small (asking-visited c.requires).ins)

pub down-requires : goal.down-requires
down-requires c =
    omega (arith, depth_small (asking-visited c.requires).ins)

pub returns : goal.returns
returns c =
    asking-down c.requires (rw c.word_of.ensures at c.push.ensures) c.down.ensures
