-- `evaluation::pass` meets its contract. Assumes nothing.
use mathlib.Core.Path.{refl}
use Rattle.terms.proofs.Laws.Loop.{turn-start, turn-steps, turn-next}
use Rattle.terms.proofs.evaluation.pass.Goals as goal

pub loop-i-init : goal.loop-i-init
loop-i-init c = turn-start _ _ _ _ _ c.requires refl

pub step-s-requires : goal.step-s-requires
step-s-requires c =
    turn-steps c.loop-i.invariant c.loop-i-test.true c.requires

pub loop-i-preserved : goal.loop-i-preserved
loop-i-preserved c =
    turn-next c.loop-i.invariant c.loop-i-test.true c.step-s.ensures c.step-s.auto.w
