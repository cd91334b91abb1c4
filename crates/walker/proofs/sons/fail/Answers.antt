-- `sons::fail` meets its contract.
use native.Mathlib.Omega.{arith}
use Rattle.search.proofs.Simple.{leaf-down, depth_small}
use Rattle.walker.proofs.sons.fail.Goals as goal

pub down-requires : goal.down-requires
down-requires c = omega (arith, depth_small c.requires.at.ins)

pub returns : goal.returns
returns c = leaf-down c.requires c.down.ensures
