-- The token of the constant's word. Assumes nothing.
use mathlib.Core.Path.{◌∙◌, sym, ap}
use Rattle.specification.specs.Number.{integer}
use Rattle.sheet.proofs.Lexed.{constant_token, constant-token}
use Rattle.sheet.proofs.words.constant.Goals as goal

pub returns-in-None : goal.returns-in-None
returns-in-None c = c.word.ensures ∙ ap constant_token (sym c.in-None.is ∙ c.integer.ensures) ∙ constant-token (integer c.args.t.now)

pub returns-in-Some : goal.returns-in-Some
returns-in-Some c = ap constant_token (sym c.in-Some.is ∙ c.integer.ensures) ∙ constant-token (integer c.args.t.now)
