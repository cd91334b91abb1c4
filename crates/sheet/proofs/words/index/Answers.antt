-- The index is what stands after the letter. Assumes nothing.
use mathlib.Core.Path.{◌∙◌, sym, ap}
use lib.ListN.{drop}
use Rattle.specification.specs.Number.{natural}
use Rattle.sheet.proofs.Lexed.{index_token, index-token, rest-whole}
use Rattle.sheet.proofs.words.index.Goals as goal

pub returns-in-None : goal.returns-in-None
returns-in-None c = c.word.ensures ∙ ap (index_token c.args.code) (sym c.in-None.is ∙ rw (rest-whole c.args.t.now) at c.natural.ensures) ∙ index-token c.args.code (natural (drop 1 c.args.t.now))

pub returns-in-Some : goal.returns-in-Some
returns-in-Some c =
    rw c.index_word.ensures (ap (index_token c.args.code) (sym c.in-Some.is ∙ rw (rest-whole c.args.t.now) at c.natural.ensures) ∙ index-token c.args.code (natural (drop 1 c.args.t.now)))
