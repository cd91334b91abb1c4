-- `calls::copy` meets its contract. The invariant: which words are there.
use native.Mathlib.Omega.{arith}
use mathlib.Core.Path.{◌≡◌}
use Rattle.walker.proofs.Laws.Filled.{fill_none, copy_step}
use Rattle.walker.proofs.calls.copy.Goals as goal

pub loop-i-init : goal.loop-i-init
loop-i-init c = fill_none _ _ _

pub argument-requires : goal.argument-requires
argument-requires c =
    (omega (arith, c.requires.procedure), omega (arith, c.loop-i-test.true, c.requires.few))

pub overflow_add-argument : goal.overflow_add-argument
overflow_add-argument c =
    omega (
      arith,
      c.loop-i-test.true,
      c.requires.procedure,
      c.requires.few,
      c.requires.low,
      c.requires.room,
      c.loop-i.invariant.size,
      c.argument.ensures,
    )

pub word-x-requires : goal.word-x-requires
word-x-requires c =
    omega (
      arith,
      c.loop-i-test.true,
      c.requires.procedure,
      c.requires.few,
      c.requires.low,
      c.requires.room,
      c.loop-i.invariant.size,
      c.argument.ensures,
    )

pub overflow_cast-i : goal.overflow_cast-i
overflow_cast-i c =
    omega (
      arith,
      c.loop-i-test.true,
      c.requires.procedure,
      c.requires.few,
      c.requires.low,
      c.requires.room,
      c.loop-i.invariant.size,
    )

pub overflow_add-top : goal.overflow_add-top
overflow_add-top c =
    omega (
      arith,
      c.loop-i-test.true,
      c.requires.procedure,
      c.requires.few,
      c.requires.low,
      c.requires.room,
      c.loop-i.invariant.size,
    )

pub put-requires : goal.put-requires
put-requires c =
    omega (
      arith,
      c.loop-i-test.true,
      c.requires.procedure,
      c.requires.few,
      c.requires.low,
      c.requires.room,
      c.loop-i.invariant.size,
    )

pub loop-i-preserved : goal.loop-i-preserved
loop-i-preserved c =
    copy_step c.requires c.loop-i.invariant c.loop-i-test.true
    c.argument.ensures c.word-x.ensures c.put.ensures

pub shape_of-w : goal.shape_of-w
shape_of-w c = c.loop-i.invariant.size

pub returns : goal.returns
returns c =
    let e : c.loop-i.i ≡ c.args.n = omega (arith, c.loop-i-test.false, c.loop-i.auto.i-end) in
    rw e at c.loop-i.invariant
