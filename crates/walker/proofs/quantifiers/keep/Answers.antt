-- `quantifiers::keep` meets its contract.
use Rattle.walker.proofs.quantifiers.keep.Goals as goal

pub returns : goal.returns
returns c =
    rw (c.word-old.ensures, c.word-had.ensures) at c.push.ensures
