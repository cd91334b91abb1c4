-- By the edition. Assumes nothing.
use borrow.Author.Tests.{eq-eqb, ne_eqb}
use Rattle.sheet.proofs.words.parameter.Goals as goal

pub returns-then-edition-eq-FIRST_EDITION : goal.returns-then-edition-eq-FIRST_EDITION
returns-then-edition-eq-FIRST_EDITION c = rw (eq-eqb _ 1 c.if-edition-eq-FIRST_EDITION.true) c.word.ensures

pub returns : goal.returns
returns c = rw (ne_eqb _ 1 c.if-edition-eq-FIRST_EDITION.false) c.index.ensures
