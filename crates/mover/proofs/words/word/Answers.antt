-- By whether the token is dropped, and whether its range is empty. Assumes nothing.
use mathlib.Core.Path.{sym, ◌∙◌}
use Rattle.mover.proofs.Laws.Words.{word-dropped, word-empty, word-spelt}
use Rattle.mover.proofs.words.word.Goals as goal

pub returns-then-i-until : goal.returns-then-i-until
returns-then-i-until c =
    let a = c.args in
    sym (word-dropped a.w.now a.i a.until a.newer a.letters.now c.if-i-until.true)

pub returns-then-empty_at : goal.returns-then-empty_at
returns-then-empty_at c =
    let a = c.args in
    c.stand_in.ensures ∙ sym (word-empty a.w.now a.i a.until a.newer a.letters.now c.if-i-until.false
    (sym c.empty_at.ensures ∙ c.if-empty_at.true))

pub returns : goal.returns
returns c =
    let a = c.args in
    c.spelling.ensures ∙ sym (word-spelt a.w.now a.i a.until a.newer a.letters.now c.if-i-until.false
    (sym c.empty_at.ensures ∙ c.if-empty_at.false) c.code.result c.code.ensures)
