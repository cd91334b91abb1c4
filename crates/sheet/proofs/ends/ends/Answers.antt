-- The ends of the tokens from the i-th on are in the table. Assumes nothing.
use native.Mathlib.Omega.{arith}
use mathlib.Core.Path.{◌≡◌, ◌∙◌}
use Rattle.sheet.proofs.Subtrees.{from-none, from-ends, from_more}
use Rattle.sheet.proofs.ends.ends.Goals as goal

pub loop-i-init : goal.loop-i-init
loop-i-init c = from-none c.args.w.now c.args.n

pub subtree-e-requires : goal.subtree-e-requires
subtree-e-requires c = (
  omega arith,
  c.requires.0,
  omega (arith, c.loop-i.auto.w, c.requires.1),
  from-ends c.args.w.now c.args.n c.loop-i.i _ c.loop-i.invariant c.loop-i-test.true c.loop-i.auto.i c.requires.0 c.requires.1,
)

pub loop-i-preserved : goal.loop-i-preserved
loop-i-preserved c =
    c.set_end.ensures ∙ from_more c.args.w.now c.args.n c.loop-i.i _ c.loop-i.invariant c.loop-i-test.true c.loop-i.auto.i _ c.subtree-e.ensures

pub returns : goal.returns
returns c = let z : c.loop-i.i ≡ 0 = omega arith in c.loop-i.invariant ∙ rw z
