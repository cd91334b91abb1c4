-- The length is known before anything is kept. Assumes nothing.
use Rattle.mover.specs.Steps.{moved_text}
use Rattle.mover.proofs.Laws.Texts.{done-long, done-moved}
use Rattle.mover.proofs.fit.Goals as goal

pub returns-then-n-gt-LONGEST : goal.returns-then-n-gt-LONGEST
returns-then-n-gt-LONGEST c =
    let a = c.args in
    rw c.new.ensures (done-long a.out.now (moved_text a.way a.ranges a.w.now a.s.now) _ c.size-n.ensures c.if-n-gt-LONGEST.true)

pub returns : goal.returns
returns c =
    let a = c.args in
    done-moved a.out.now (moved_text a.way a.ranges a.w.now a.s.now) _ c.size-n.ensures _ _ c.if-n-gt-LONGEST.false c.requires.2
    c.moved_text.ensures
