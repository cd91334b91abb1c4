-- `machine::passed` meets its contract.
use native.Mathlib.Omega.{arith}
use mathlib.Core.Path.{◌∙◌, ap}
use Rattle.search.specs.Registers.{rise_go}
use Rattle.walker.proofs.Laws.Blocks.{tally-fits, passed-answer, passed-error}
use Rattle.walker.proofs.machine.passed.Goals as goal

pub visited-t-requires : goal.visited-t-requires
visited-t-requires c = c.requires.visits

pub counted-u-requires : goal.counted-u-requires
counted-u-requires c =
    tally-fits c.requires c.visited-t.ensures

pub leaf-requires : goal.leaf-requires
leaf-requires c = omega (arith, c.requires.visits.deep)

pub returns-then-g-eq-SUCCESS : goal.returns-then-g-eq-SUCCESS
returns-then-g-eq-SUCCESS c =
    let q = c.rising.ensures ∙ ap rise_go c.leaf.ensures in
    passed-answer _ c.visited-t.ensures c.counted-u.ensures q c.if-g-eq-SUCCESS.true

pub counted-u-requires-2 : goal.counted-u-requires-2
counted-u-requires-2 c =
    tally-fits c.requires c.visited-t.ensures

pub leaf-requires-2 : goal.leaf-requires-2
leaf-requires-2 c = omega (arith, c.requires.visits.deep)

pub returns : goal.returns
returns c =
    let q = c.rising-2.ensures ∙ ap rise_go c.leaf-2.ensures in
    passed-error _ c.visited-t.ensures c.counted-u-2.ensures q c.if-g-eq-SUCCESS.false
