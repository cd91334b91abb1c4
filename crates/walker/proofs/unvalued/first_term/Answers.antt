-- `unvalued::first_term` meets its contract.
use mathlib.Core.Path.{refl}
use borrow.Author.Tests.{lt-ltb, le-ltb}
use Rattle.walker.proofs.unvalued.first_term.Goals as goal

pub returns-then-code-lt-EX : goal.returns-then-code-lt-EX
returns-then-code-lt-EX c = rw (lt-ltb c.args.code 12 c.if-code-lt-EX.true) refl

pub returns : goal.returns
returns c = rw (le-ltb c.args.code 12 c.if-code-lt-EX.false) refl
