-- `leaves::error` meets its contract.
use native.Mathlib.Omega.{arith}
use mathlib.Core.Path.{◌∙◌, ap}
use Rattle.search.specs.Registers.{leaf_go}
use Rattle.search.proofs.Simple.{depth_small}
use Rattle.search.proofs.LeafSteps.{inner-erred, errs}
use Rattle.walker.proofs.Laws.Leaves.{visit-fits}
use Rattle.search.specs.declared.Errors.TheVariants.{Seen}
use Rattle.search.specs.declared.Mode.TheVariants as modes
use Rattle.walker.proofs.leaves.error.Goals as goal

pub returns-then-g-eq-MAIN : goal.returns-then-g-eq-MAIN
returns-then-g-eq-MAIN c = errs c.requires c.if-g-eq-MAIN.true c.out.ensures

pub visited-t-requires : goal.visited-t-requires
visited-t-requires c = visit-fits c.requires.at.ins

pub leaf-requires : goal.leaf-requires
leaf-requires c = omega (arith, depth_small c.requires.at.ins)

pub returns : goal.returns
returns c =
    inner-erred c.requires c.if-g-eq-MAIN.false (c.leaf.ensures ∙ ap (leaf_go c.args.g modes.Up Seen) c.visited-t.ensures)
