-- By the first byte: a constant, else a word of the set, else a name. Assumes nothing.
use native.Mathlib.Omega.{arith}
use mathlib.Core.Path.{◌∙◌, sym, ap}
use Prim.Native.Nat.{ℕ}
use Rattle.sheet.specs.Codes.{token, token_of}
use Rattle.sheet.proofs.Lexed.{lex-none, lex-constant, lex-word, lex-name}
use Rattle.sheet.proofs.Packed.{code-some, code-none}
use Rattle.sheet.proofs.words.lex.Goals as goal

pub returns-in_default : goal.returns-in_default
returns-in_default c = c.word.ensures ∙ sym (lex-none c.args.edition c.args.t.now (omega arith))

pub returns-then-passes : goal.returns-then-passes
returns-then-passes c =
    c.constant.ensures ∙ ap token_of (sym (lex-constant c.args.edition c.args.t.now (omega arith) (sym c.passes.ensures ∙ c.if-passes.true)))

pub returns-in-Some : goal.returns-in-Some
returns-in-Some c =
    let some = code-some _ _ (sym c.in-Some.is ∙ c.word_code.ensures) in
    c.word-in-Some.ensures ∙ ap (λ (k : ℕ). token k 0) (sym some.1) ∙ sym (lex-word c.args.edition c.args.t.now (omega arith) (sym c.passes.ensures ∙ c.if-passes.false) some.0)

pub returns-in-None : goal.returns-in-None
returns-in-None c =
    let no = code-none _ (sym c.in-None.is ∙ c.word_code.ensures) in
    c.name.ensures ∙ sym (lex-name c.args.edition c.args.t.now (omega arith) (sym c.passes.ensures ∙ c.if-passes.false) no)
