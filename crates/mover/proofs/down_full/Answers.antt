-- By whether a word rounds down. Assumes nothing.
use mathlib.Core.Path.{sym, ap, ◌∙◌}
use Rattle.specification.specs.Moves.{fitted}
use Rattle.mover.specs.Model.{down_text, rounding_of}
use Rattle.mover.specs.Steps.{placed}
use Rattle.mover.proofs.Laws.Texts.{rounding-of, done-some, done_none}
use Rattle.mover.proofs.down_full.Goals as goal

pub returns-in-Some : goal.returns-in-Some
returns-in-Some c =
    let a = c.args in
    let s = a.s.now in
    rw c.new.ensures
    (done-some a.out.now 16 _ (rounding_of s) (fitted (down_text a.w.now s))
    (rounding-of s _ _ c.lines_end.ensures (ap placed (sym c.in-Some.is) ∙ c.rounding.ensures)))

pub returns-in-None : goal.returns-in-None
returns-in-None c =
    let a = c.args in
    let s = a.s.now in
    done_none a.out.now _ 16 (rounding_of s) (fitted (down_text a.w.now s)) _
    (rounding-of s _ _ c.lines_end.ensures (ap placed (sym c.in-None.is) ∙ c.rounding.ensures))
    c.fit.ensures
