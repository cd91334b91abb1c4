-- From the last byte to the first. Assumes nothing.
use native.Mathlib.Omega.{arith}
use mathlib.Core.Path.{◌≡◌}
use borrow.Author.Rules.{rules}
use Rattle.sheet.proofs.Packed.{pack-word, pack-none, pack-more, pack-done}
use Rattle.sheet.proofs.words.pack.Goals as goal

pub loop-b-init : goal.loop-b-init
loop-b-init c =
    let t = c.args.t.now in
    let all : c.into_iter-b-iterator.result.iter.rest.now ≡ t = search rules in
    rw all (pack-none t c.requires)

pub overflow_mul-n : goal.overflow_mul-n
overflow_mul-n c = omega (arith, pack-word c.loop-b.invariant)

pub overflow_add-n : goal.overflow_add-n
overflow_add-n c = omega (arith, pack-word c.loop-b.invariant)

pub loop-b-preserved : goal.loop-b-preserved
loop-b-preserved c = rw c.from.ensures (pack-more _ _ c.in-Some.ensures.steps (omega arith) c.loop-b.invariant)

pub returns : goal.returns
returns c = pack-done _ _ _ c.in-None.ensures.steps.0 c.loop-b.invariant
