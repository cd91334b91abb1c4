-- `inner::after_given` meets its contract.
use borrow.Author.Tests.{lt-ltb, le-ltb}
use Rattle.walker.proofs.inner.after_given.Goals as goal

pub returns-then-mark-inner : goal.returns-then-mark-inner
returns-then-mark-inner c = rw (lt-ltb c.args.mark c.args.inner c.if-mark-inner.true)

pub returns : goal.returns
returns c = rw (le-ltb c.args.mark c.args.inner c.if-mark-inner.false)
