-- Up to the place that is reached no word rounds down. Assumes nothing.
use mathlib.Core.Path.{sym, ◌∙◌}
use Rattle.mover.proofs.Laws.Words.{rounding-none, rounding-here, rounding-later}
use Rattle.mover.proofs.words.rounding.Goals as goal

pub returns-then-either_at : goal.returns-then-either_at
returns-then-either_at c =
    sym (c.loop-i.invariant ∙ rounding-here c.args.s.now c.loop-i.i c.loop-i-test.true
    (sym c.either_at.ensures ∙ c.if-either_at.true))

pub loop-i-preserved : goal.loop-i-preserved
loop-i-preserved c =
    c.loop-i.invariant ∙ rounding-later c.args.s.now c.loop-i.i c.loop-i-test.true
    (sym c.either_at.ensures ∙ c.if-either_at.false)

pub returns : goal.returns
returns c =
    sym (c.loop-i.invariant ∙ rounding-none c.args.s.now c.loop-i.i c.loop-i-test.false)
