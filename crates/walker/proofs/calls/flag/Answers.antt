-- `calls::flag` meets its contract. The invariant: which words are there.
use native.Mathlib.Omega.{arith}
use mathlib.Core.Path.{◌≡◌}
use Rattle.walker.proofs.Laws.Filled.{fill_none, flag-step}
use Rattle.walker.proofs.calls.flag.Goals as goal

pub loop-i-init : goal.loop-i-init
loop-i-init c = fill_none _ _ _

pub argument-requires : goal.argument-requires
argument-requires c =
    (omega (arith, c.requires.procedure), omega (arith, c.loop-i-test.true, c.requires.few))

pub overflow_cast-argument : goal.overflow_cast-argument
overflow_cast-argument c =
    omega (
      arith,
      c.loop-i-test.true,
      c.requires.procedure,
      c.requires.few,
      c.requires.size,
      c.loop-i.invariant.size,
      c.argument.ensures,
    )

pub first-requires : goal.first-requires
first-requires c =
    omega (arith, c.loop-i-test.true, c.requires.procedure, c.requires.few, c.requires.size, c.loop-i.invariant.size)

pub put-requires : goal.put-requires
put-requires c =
    omega (
      arith,
      c.loop-i-test.true,
      c.requires.procedure,
      c.requires.few,
      c.requires.size,
      c.loop-i.invariant.size,
      c.argument.ensures,
    )

pub loop-i-preserved : goal.loop-i-preserved
loop-i-preserved c =
    flag-step _ c.requires c.loop-i.invariant c.loop-i-test.true
    c.argument.ensures c.first.ensures c.put.ensures

pub shape_of-w : goal.shape_of-w
shape_of-w c = c.loop-i.invariant.size

pub returns : goal.returns
returns c =
    let e : c.loop-i.i ≡ c.args.n = omega (arith, c.loop-i-test.false, c.loop-i.auto.i-end) in
    rw e at c.loop-i.invariant
