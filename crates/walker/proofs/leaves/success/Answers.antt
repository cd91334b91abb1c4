-- `leaves::success` meets its contract.
use native.Mathlib.Omega.{arith}
use Rattle.walker.proofs.Laws.Leaves.{visit-fits}
use Rattle.walker.proofs.Laws.Won.{won-block, won-unwinds, won-grants, won-granted}
use Rattle.walker.proofs.leaves.success.Goals as goal

pub returns-then-g-eq-MAIN : goal.returns-then-g-eq-MAIN
returns-then-g-eq-MAIN c = won-block c.requires c.if-g-eq-MAIN.true c.out.ensures

pub visited-t-requires : goal.visited-t-requires
visited-t-requires c = visit-fits c.requires.ins

pub leaf-requires : goal.leaf-requires
leaf-requires c = omega (arith, (visit-fits c.requires.ins).deep)

pub unwind-u-requires : goal.unwind-u-requires
unwind-u-requires c =
    won-unwinds c.requires c.if-g-eq-MAIN.false c.visited-t.ensures c.leaf.ensures

pub grant-requires : goal.grant-requires
grant-requires c =
    won-grants c.requires c.if-g-eq-MAIN.false c.visited-t.ensures c.leaf.ensures c.unwind-u.ensures

pub returns : goal.returns
returns c =
    won-granted c.requires c.if-g-eq-MAIN.false c.visited-t.ensures c.leaf.ensures c.unwind-u.ensures c.grant.ensures
