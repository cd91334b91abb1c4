-- By the number of the bytes, in the set of the edition. Assumes nothing.
use mathlib.Core.Path.{◌≡◌, ◌∙◌, sym, ap}
use Rattle.specification.specs.Words.{words}
use Rattle.sheet.specs.Packed.{code_by, code_in, code_or_none}
use Rattle.sheet.proofs.Packed.{code-long, code-packed, first-words, second-words, third-words}
use Rattle.sheet.proofs.words.word_code.Goals as goal
use Rattle.sheet.proofs.words.word_code.Goals.{After-pack-word}

packed-code : (c : After-pack-word) →
    code_by c.pack-word.result (words c.args.edition) ≡
    code_in c.args.t.now (words c.args.edition)
packed-code c =
    ap (λ k. code_by k (words c.args.edition)) c.pack-word.ensures ∙
    sym (code-packed c.args.edition c.args.t.now (λ j. (c.shared_slice_known-1.given j).fits))

pub returns-then-t-gt4 : goal.returns-then-t-gt4
returns-then-t-gt4 c = ap code_or_none (sym (code-long c.args.edition _ c.if-t-gt4.true))

pub returns-then-edition-eq-FIRST_EDITION : goal.returns-then-edition-eq-FIRST_EDITION
returns-then-edition-eq-FIRST_EDITION c =
    c.first_edition.ensures ∙ ap code_or_none (first-words _ _ c.if-edition-eq-FIRST_EDITION.true ∙ packed-code (goal.at.returns-then-edition-eq-FIRST_EDITION c).After-pack-word)

pub returns-then-edition-lt-FIRST_ROUNDING : goal.returns-then-edition-lt-FIRST_ROUNDING
returns-then-edition-lt-FIRST_ROUNDING c =
    c.second_edition.ensures ∙ ap code_or_none (second-words _ _ c.if-edition-eq-FIRST_EDITION.false c.if-edition-lt-FIRST_ROUNDING.true ∙ packed-code (goal.at.returns-then-edition-lt-FIRST_ROUNDING c).After-pack-word)

pub returns : goal.returns
returns c =
    c.third_edition.ensures ∙ ap code_or_none (third-words _ _ c.if-edition-eq-FIRST_EDITION.false c.if-edition-lt-FIRST_ROUNDING.false ∙ packed-code (goal.at.returns c).After-pack-word)
