-- By the first byte, then by its form. Assumes nothing.
use native.Mathlib.Omega.{arith}
use mathlib.Core.Path.{◌∙◌, sym, ap}
use Rattle.specification.specs.Number.{natural}
use Rattle.sheet.specs.Codes.{token_of}
use Rattle.sheet.proofs.Lexed.{number-none, number-other, number-numeral, numeral_token, numeral-token}
use Rattle.sheet.proofs.words.number.Goals as goal

pub returns-in_default : goal.returns-in_default
returns-in_default c = c.word.ensures ∙ sym (number-none c.args.t.now (omega arith))

pub returns-then-not-passes : goal.returns-then-not-passes
returns-then-not-passes c = c.word-then-not-passes.ensures ∙ sym (number-other c.args.t.now (omega arith) (sym c.passes.ensures ∙ c.if-not-passes.true))

pub returns-in-None : goal.returns-in-None
returns-in-None c =
    let t = c.args.t.now in
    c.word-in-None.ensures ∙ ap numeral_token (sym c.in-None.is ∙ c.natural.ensures) ∙ numeral-token (natural t) ∙
    ap token_of (sym (number-numeral t (omega arith) (sym c.passes.ensures ∙ c.if-not-passes.false)))

pub returns-in-Some : goal.returns-in-Some
returns-in-Some c =
    let t = c.args.t.now in
    rw c.index_word.ensures
    (ap numeral_token (sym c.in-Some.is ∙ c.natural.ensures) ∙ numeral-token (natural t) ∙
    ap token_of (sym (number-numeral t (omega arith) (sym c.passes.ensures ∙ c.if-not-passes.false))))
