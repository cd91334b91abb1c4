-- `connectives::enter_and` meets its contract.
use native.Mathlib.Omega.{arith}
use Rattle.search.proofs.Simple.{and-near, and-down, depth_small}
use Rattle.walker.proofs.connectives.enter_and.Goals as goal

pub overflow_add-g : goal.overflow_add-g
overflow_add-g c = omega (arith, and-near c.requires)

pub down-requires : goal.down-requires
down-requires c = omega (arith, depth_small c.requires.at.ins)

pub returns : goal.returns
returns c = and-down c.requires c.down.ensures
