-- `leaves::failure` meets its contract.
use native.Mathlib.Omega.{arith}
use mathlib.Core.Path.{◌∙◌, ap}
use Rattle.search.specs.Registers.{leaf_go, counted}
use Rattle.search.proofs.Simple.{depth_small}
use Rattle.search.proofs.LeafSteps.{inner-failed, main-failed}
use Rattle.walker.proofs.Laws.Leaves.{visit-fits, fail-fits}
use Rattle.search.specs.declared.Mode.TheVariants as modes
use Rattle.search.specs.declared.Tally.TheVariants as leaves
use Rattle.walker.proofs.leaves.failure.Goals as goal

pub visited-t-requires : goal.visited-t-requires
visited-t-requires c = visit-fits c.requires.at.ins

pub counted-u-requires : goal.counted-u-requires
counted-u-requires c =
    rw c.visited-t.ensures (fail-fits c.requires.at.ins)

pub leaf-requires : goal.leaf-requires
leaf-requires c = omega (arith, depth_small c.requires.at.ins)

pub returns-then-g-eq-MAIN : goal.returns-then-g-eq-MAIN
returns-then-g-eq-MAIN c =
    let tally = c.counted-u.ensures ∙ ap (λ t. counted t leaves.Failure) c.visited-t.ensures in
    let g = c.args.g in
    main-failed c.requires c.if-g-eq-MAIN.true (c.leaf.ensures ∙ ap (leaf_go g modes.Up g.bad) tally)

pub leaf-requires-2 : goal.leaf-requires-2
leaf-requires-2 c = omega (arith, depth_small c.requires.at.ins)

pub returns : goal.returns
returns c =
    let g = c.args.g in
    inner-failed c.requires c.if-g-eq-MAIN.false (c.leaf-2.ensures ∙ ap (leaf_go g modes.Up g.bad) c.visited-t.ensures)
