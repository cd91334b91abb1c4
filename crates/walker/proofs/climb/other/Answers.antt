-- `climb::other` meets its contract.
use native.Mathlib.Omega.{arith}
use mathlib.Core.Path.{refl}
use Rattle.walker.proofs.Laws.Reach.{or-depth, rises-visits}
use Rattle.walker.proofs.Laws.Risen.{other-rose}
use Rattle.walker.proofs.climb.other.Goals as goal

pub overflow_sub-g : goal.overflow_sub-g
overflow_sub-g c = omega (arith, (or-depth c.requires).0.reach.low)

pub at-depth-requires : goal.at-depth-requires
at-depth-requires c = let r = (or-depth c.requires).0.reach in omega (arith, r.low, r.high)

pub overflow_sub-g-2 : goal.overflow_sub-g-2
overflow_sub-g-2 c = omega (arith, (or-depth c.requires).0.reach.low)

pub resumed-requires : goal.resumed-requires
resumed-requires c = (omega (arith, c.at-depth.ensures, (or-depth c.requires).1), rises-visits (c.requires).from.rises)

pub returns : goal.returns
returns c = other-rose c.requires refl c.word.ensures c.at-depth.ensures c.resumed.ensures
