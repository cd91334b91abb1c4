-- `connectives::enter_empty` meets its contract.
use native.Mathlib.Omega.{arith}
use Rattle.search.proofs.Simple.{empty-errs, empty_leaf, leaf-down, depth_small}
use Rattle.walker.proofs.connectives.enter_empty.Goals as goal

pub err-requires : goal.err-requires
err-requires c = empty-errs c.requires c.if-g-eq-GIVEN.true

pub down-requires : goal.down-requires
down-requires c = omega (arith, depth_small c.requires.at.ins)

pub returns : goal.returns
returns c = leaf-down (empty_leaf c.requires c.if-g-eq-GIVEN.false) c.down.ensures
