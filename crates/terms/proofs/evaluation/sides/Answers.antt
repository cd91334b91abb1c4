-- `evaluation::sides` meets its contract. Assumes nothing.
use Rattle.terms.proofs.Laws.Program.{asked-passes, passed-both}
use Rattle.terms.proofs.evaluation.sides.Goals as goal

pub pass-s-requires : goal.pass-s-requires
pass-s-requires c =
    asked-passes c.settle.ensures c.requires

pub returns : goal.returns
returns c =
    passed-both c.settle.ensures c.pass-s.ensures
