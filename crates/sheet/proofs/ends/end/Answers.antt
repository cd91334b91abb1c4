-- Behind the last token, or from the table. Assumes nothing.
use borrow.Author.Tests.{lt-ltb, le-ltb}
use Rattle.sheet.proofs.ends.end.Goals as goal

pub returns-then-n-e : goal.returns-then-n-e
returns-then-n-e c = rw (le-ltb _ _ c.if-n-e.true)

pub returns : goal.returns
returns c = rw (lt-ltb _ _ (c.if-n-e.false)) c.end.ensures
