-- `machine::walk_tables` meets its contract.
use native.Mathlib.Omega.{arith}
use Rattle.walker.proofs.Laws.Started.{ready-plans, prepared, walked}
use Rattle.walker.proofs.machine.walk_tables.Goals as goal

pub plan-requires : goal.plan-requires
plan-requires c =
    let a = c.requires in
    ready-plans a.sheet a.ready

pub walk-s-requires : goal.walk-s-requires
walk-s-requires c =
    let a = c.requires in
    record { sheet = a.sheet; prepared = prepared _ c.plan.ensures a.sheet a.ready }

pub overflow_sub-g : goal.overflow_sub-g
overflow_sub-g c =
    omega (arith, c.walk-s.ensures.counted.begun)

pub visited-t-requires : goal.visited-t-requires
visited-t-requires c =
    omega (arith, c.walk-s.ensures.counted.fits)

pub returns : goal.returns
returns c =
    walked c.plan.ensures c.walk-s.ensures c.visited-t.ensures c.end_of-end.ensures
