-- By the quantifier. Assumes nothing.
use mathlib.Core.Path.{sym, ◌∙◌}
use Rattle.mover.proofs.Laws.Words.{stand-some, stand-all}
use Rattle.mover.proofs.words.stand_in.Goals as goal

pub returns-then-code-eq-SOME : goal.returns-then-code-eq-SOME
returns-then-code-eq-SOME c =
    let a = c.args in
    sym (stand-some a.w.now a.i (sym c.code.ensures ∙ c.if-code-eq-SOME.true))

pub returns : goal.returns
returns c =
    let a = c.args in
    sym (stand-all a.w.now a.i (λ e. c.if-code-eq-SOME.false (c.code.ensures ∙ e)))
