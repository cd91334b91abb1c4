-- `calls::refill` meets its contract. The invariant: which words are there.
use native.Mathlib.Omega.{arith}
use mathlib.Core.Path.{◌≡◌}
use Rattle.walker.proofs.Laws.Filled.{fill_none, refill-step}
use Rattle.walker.proofs.calls.refill.Goals as goal

pub loop-i-init : goal.loop-i-init
loop-i-init c = fill_none _ _ _

pub overflow_cast-i : goal.overflow_cast-i
overflow_cast-i c =
    omega (
      arith,
      c.loop-i-test.true,
      c.requires.slots.procedure,
      c.requires.slots.few,
      c.requires.slots.size,
      c.requires.inside,
      c.loop-i.invariant.size,
    )

pub overflow_add-from : goal.overflow_add-from
overflow_add-from c =
    omega (
      arith,
      c.loop-i-test.true,
      c.requires.slots.procedure,
      c.requires.slots.few,
      c.requires.slots.size,
      c.requires.inside,
      c.loop-i.invariant.size,
    )

pub at-x-requires : goal.at-x-requires
at-x-requires c =
    omega (
      arith,
      c.loop-i-test.true,
      c.requires.slots.procedure,
      c.requires.slots.few,
      c.requires.slots.size,
      c.requires.inside,
      c.loop-i.invariant.size,
    )

pub argument-requires : goal.argument-requires
argument-requires c =
    (omega (arith, c.requires.slots.procedure), omega (arith, c.loop-i-test.true, c.requires.slots.few))

pub overflow_cast-argument : goal.overflow_cast-argument
overflow_cast-argument c =
    omega (
      arith,
      c.loop-i-test.true,
      c.requires.slots.procedure,
      c.requires.slots.few,
      c.requires.slots.size,
      c.requires.inside,
      c.loop-i.invariant.size,
      c.argument.ensures,
    )

pub overflow_add-argument : goal.overflow_add-argument
overflow_add-argument c =
    omega (
      arith,
      c.loop-i-test.true,
      c.requires.slots.procedure,
      c.requires.slots.few,
      c.requires.slots.size,
      c.requires.inside,
      c.loop-i.invariant.size,
      c.argument.ensures,
    )

pub put-requires : goal.put-requires
put-requires c =
    omega (
      arith,
      c.loop-i-test.true,
      c.requires.slots.procedure,
      c.requires.slots.few,
      c.requires.slots.size,
      c.requires.inside,
      c.loop-i.invariant.size,
      c.argument.ensures,
    )

pub loop-i-preserved : goal.loop-i-preserved
loop-i-preserved c =
    refill-step c.requires c.loop-i.invariant c.loop-i-test.true
    c.at-x.ensures c.argument.ensures c.put.ensures

pub shape_of-w : goal.shape_of-w
shape_of-w c = c.loop-i.invariant.size

pub returns : goal.returns
returns c =
    let e : c.loop-i.i ≡ c.args.n = omega (arith, c.loop-i-test.false, c.loop-i.auto.i-end) in
    rw e at c.loop-i.invariant
