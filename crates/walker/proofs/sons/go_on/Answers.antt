-- `sons::go_on` meets its contract.
use native.Mathlib.Omega.{arith}
use Rattle.search.proofs.Simple.{goes_on, goes_near, depth_small}
use Rattle.walker.proofs.sons.go_on.Goals as goal

pub next-requires : goal.next-requires
next-requires c = goes_near c.requires

pub down-requires : goal.down-requires
down-requires c = omega (arith, depth_small c.requires.at.ins)

pub returns : goal.returns
returns c = goes_on c.requires (rw c.next.ensures at c.down.ensures)
