-- By the test. Assumes nothing.
use borrow.Author.Tests.{lt-ltb, le-ltb}
use Rattle.sheet.specs.Items.{scalar_in}
use Rattle.sheet.proofs.given.scalar_cell.Goals as goal

pub returns-then-n-scalars : goal.returns-then-n-scalars
unfolding scalar_in
returns-then-n-scalars c = rw (lt-ltb _ _ c.if-n-scalars.true)

pub returns-else-n-scalars : goal.returns-else-n-scalars
unfolding scalar_in
returns-else-n-scalars c = rw (le-ltb _ _ c.if-n-scalars.false)
