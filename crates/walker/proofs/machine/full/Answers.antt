-- `machine::full` meets its contract.
use native.Mathlib.Omega.{arith}
use mathlib.Core.Path.{◌∙◌, ap}
use Rattle.search.specs.Registers.{leaf_go}
use Rattle.search.specs.declared.Mode.TheVariants as modes
use Rattle.walker.proofs.machine.full.Goals as goal

pub visited-t-requires : goal.visited-t-requires
visited-t-requires c = c.requires

pub leaf-requires : goal.leaf-requires
leaf-requires c = omega (arith, c.requires.deep)

pub returns : goal.returns
returns c =
    let g = c.args.g in
    c.leaf.ensures ∙ ap (leaf_go g modes.Full g.bad) c.visited-t.ensures
