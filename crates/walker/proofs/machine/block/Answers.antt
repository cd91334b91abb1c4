-- `machine::block` meets its contract: skipped, written or without room.
use native.Mathlib.Omega.{arith}
use Rattle.walker.proofs.Laws.Blocks.{leaf-due, head-due, listing-ready, start-inside, blocked-skipped, blocked-written, blocked-full, written-inside, told}
use Rattle.walker.proofs.machine.block.Goals as goal

pub overflow_add-t : goal.overflow_add-t
overflow_add-t c =
    omega (arith, (leaf-due c.requires).leaves)

pub passed-requires : goal.passed-requires
passed-requires c =
    leaf-due c.requires

pub returns-then-t-task : goal.returns-then-t-task
returns-then-t-task c =
    blocked-skipped c.requires c.passed.ensures c.state.ensures.0 c.state.ensures.1 c.if-t-task.true

pub head-h-requires : goal.head-h-requires
head-h-requires c =
    head-due c.requires

pub slice_bounds-rest-count : goal.slice_bounds-rest-count
slice_bounds-rest-count c =
    omega (arith, start-inside c.requires)

pub slice_bounds-rest-start : goal.slice_bounds-rest-start
slice_bounds-rest-start c =
    omega (arith, start-inside c.requires)

pub slice_bounds-rest-end : goal.slice_bounds-rest-end
slice_bounds-rest-end c =
    omega (arith, start-inside c.requires)

pub write-requires : goal.write-requires
write-requires c =
    listing-ready c.requires

pub full-requires : goal.full-requires
full-requires c =
    (leaf-due c.requires).visits

pub passed-requires-in-Some : goal.passed-requires-in-Some
passed-requires-in-Some c =
    leaf-due c.requires

pub overflow_add-written : goal.overflow_add-written
overflow_add-written c =
    let listed = told _ _ _ _ c.head-h.ensures c.in-Some.is c.write.ensures in
    omega (arith, written-inside c.requires c.in-Some.n listed, c.well_formed.1.0.0)

pub returns-in-None : goal.returns-in-None
returns-in-None c =
    let listed = told _ _ _ _ c.head-h.ensures c.in-None.is c.write.ensures in
    blocked-full c.requires c.if-t-task.false c.full.ensures c.state-in-None.ensures.0 c.state-in-None.ensures.1 listed

pub returns-in-Some : goal.returns-in-Some
returns-in-Some c =
    let listed = told _ _ _ _ c.head-h.ensures c.in-Some.is c.write.ensures in
    blocked-written c.requires c.if-t-task.false c.in-Some.n c.passed-in-Some.ensures c.state-in-Some.ensures.0 c.state-in-Some.ensures.1 listed
