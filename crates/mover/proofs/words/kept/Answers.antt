-- By whether the mark is dropped. Assumes nothing.
use mathlib.Core.Path.{sym}
use Rattle.mover.proofs.Laws.Words.{kept-none, kept-all}
use Rattle.mover.proofs.words.kept.Goals as goal

pub returns-then-next-until : goal.returns-then-next-until
returns-then-next-until c = let a = c.args in sym (kept-none a.next a.until a.mark.now c.if-next-until.true)

pub returns : goal.returns
returns c = let a = c.args in sym (kept-all a.next a.until a.mark.now c.if-next-until.false)
