-- `unvalued::end_of_terms` meets its contract.
use Prim.Native.Nat.{◌/◌}
use mathlib.Core.Path.{ap}
use borrow.Author.Tests.{lt-ltb, le-ltb}
use Rattle.walker.proofs.unvalued.end_of_terms.Goals as goal

pub returns-then-code-lt-EX : goal.returns-then-code-lt-EX
returns-then-code-lt-EX c = rw (lt-ltb c.args.code 12 c.if-code-lt-EX.true) c.end.ensures

pub returns : goal.returns
returns c = rw (le-ltb c.args.code 12 c.if-code-lt-EX.false) (ap (◌/ 4) c.planned.ensures)
