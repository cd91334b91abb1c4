-- `sons::err` meets its contract.
use native.Mathlib.Omega.{arith}
use Rattle.search.proofs.Simple.{err-down, top-low, top-room, depth_small}
use Rattle.walker.proofs.sons.err.Goals as goal

pub set_error-requires : goal.set_error-requires
set_error-requires c =
    let i = c.requires.at.ins in
    omega (arith, top-low i, top-room i)

pub down-requires : goal.down-requires
down-requires c = omega (arith, depth_small c.requires.at.ins)

pub returns : goal.returns
returns c =
    err-down _ _ _ c.set_error.ensures c.requires c.down.ensures
