-- `values::rounded` meets its contract: 64 bits hold both divisions exactly, and the side of the rest says which is due. Assumes nothing.
use Rattle.values.proofs.Laws.Floor.{opposite-rounded, same-rounded}
use Rattle.values.proofs.rounded.Goals as goal

pub returns-then-opposite : goal.returns-then-opposite
returns-then-opposite c =
    opposite-rounded c.args.x c.args.y c.requires.0 c.requires.1 c.requires.2 c.opposite.result c.opposite.ensures c.if-opposite.true

pub returns : goal.returns
returns c =
    same-rounded c.args.x c.args.y c.requires.0 c.requires.1 c.requires.2 c.opposite.result c.opposite.ensures c.if-opposite.false
