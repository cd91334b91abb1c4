-- By whether there is a byte. Assumes nothing.
use Rattle.mover.proofs.Laws.Chunks.{mark-none, mark-some}
use Rattle.mover.proofs.words.mark_end.Goals as goal

pub returns-then-s-at : goal.returns-then-s-at
returns-then-s-at c = mark-none c.args.s.now c.args.at c.if-s-at.true

pub returns : goal.returns
returns c = mark-some c.args.s.now c.args.at c.if-s-at.false
