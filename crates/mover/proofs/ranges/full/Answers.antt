-- By whether it is the last. Assumes nothing.
use mathlib.Core.Path.{sym}
use Rattle.mover.proofs.Laws.Ranges.{marked-last, marked_more}
use Rattle.mover.proofs.ranges.full.Goals as goal

pub returns-then-after-eq0 : goal.returns-then-after-eq0
returns-then-after-eq0 c = sym (marked-last c.args.after c.if-after-eq0.true)

pub returns-else-after-eq0 : goal.returns-else-after-eq0
returns-else-after-eq0 c = sym (marked_more c.args.after c.if-after-eq0.false)
