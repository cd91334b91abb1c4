-- By the code. Assumes nothing.
use mathlib.Core.Path.{sym, ◌∙◌}
use Rattle.mover.proofs.Laws.Words.{spelt-quo, spelt-rem, spelt-same}
use Rattle.mover.proofs.words.spelling.Goals as goal

pub returns-then-code-eq-QUO : goal.returns-then-code-eq-QUO
returns-then-code-eq-QUO c =
    let a = c.args in
    c.by_edition.ensures ∙ sym (spelt-quo a.newer a.code a.letters.now c.if-code-eq-QUO.true)

pub returns-then-code-eq-REM : goal.returns-then-code-eq-REM
returns-then-code-eq-REM c =
    let a = c.args in
    c.by_edition-then-code-eq-REM.ensures ∙ sym (spelt-rem a.newer a.code a.letters.now c.if-code-eq-QUO.false c.if-code-eq-REM.true)

pub returns : goal.returns
returns c = let a = c.args in sym (spelt-same a.newer a.code a.letters.now c.if-code-eq-QUO.false c.if-code-eq-REM.false)
