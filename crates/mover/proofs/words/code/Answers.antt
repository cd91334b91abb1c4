-- By whether the table has it. Assumes nothing.
use mathlib.Core.Path.{sym, ◌∙◌}
use Rattle.mover.proofs.Laws.Words.{code_inside, code-beyond}
use Rattle.mover.proofs.words.code.Goals as goal

pub returns-then-i-ge-MAX_TOKENS : goal.returns-then-i-ge-MAX_TOKENS
returns-then-i-ge-MAX_TOKENS c =
    let a = c.args in
    sym (code-beyond a.w.now a.i c.if-i-ge-MAX_TOKENS.true)

pub returns : goal.returns
returns c =
    let a = c.args in
    c.code.ensures ∙ sym (code_inside a.w.now a.i c.if-i-ge-MAX_TOKENS.false)
