-- By whether a range is narrower. Assumes nothing.
use native.Mathlib.Omega.{arith}
use mathlib.Core.Path.{sym, ap, ◌∙◌}
use Rattle.specification.specs.Moves.{unless, fitted}
use Rattle.mover.specs.Model.{head_lines, down_text, narrow_of, rounding_of, down_result}
use Rattle.mover.specs.Steps.{placed}
use Rattle.mover.proofs.Laws.Lines.{lines_length-≤}
use Rattle.mover.proofs.Laws.Texts.{narrow-of, done-some, done_none}
use Rattle.mover.proofs.down.Goals as goal

pub overflow_add-lines_end : goal.overflow_add-lines_end
overflow_add-lines_end c =
    omega (arith, c.lines_end.ensures, lines_length-≤ head_lines c.args.s.now, c.requires.0.short)

pub returns-in-Some : goal.returns-in-Some
unfolding down_result
returns-in-Some c =
    let a = c.args in
    let s = a.s.now in
    rw c.new.ensures
    (done-some a.out.now 15 _ (narrow_of a.ranges s) (unless 16 (rounding_of s) (fitted (down_text a.w.now s)))
    (narrow-of s a.ranges _ _ c.lines_end.ensures (ap placed (sym c.in-Some.is) ∙ c.narrow.ensures)))

pub returns-in-None : goal.returns-in-None
unfolding down_result
returns-in-None c =
    let a = c.args in
    let s = a.s.now in
    done_none a.out.now _ 15 (narrow_of a.ranges s) (unless 16 (rounding_of s) (fitted (down_text a.w.now s))) _
    (narrow-of s a.ranges _ _ c.lines_end.ensures (ap placed (sym c.in-None.is) ∙ c.narrow.ensures))
    c.down_full.ensures
