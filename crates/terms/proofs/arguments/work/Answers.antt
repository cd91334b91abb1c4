-- `arguments::work` meets its contract. Assumes nothing.
use Rattle.terms.proofs.Laws.Slots.{argues-passes, work-gives}
use Rattle.terms.proofs.arguments.work.Goals as goal

pub pass-s-requires : goal.pass-s-requires
pass-s-requires c = argues-passes c.requires

pub returns : goal.returns
returns c = work-gives c.pass-s.ensures c.give.ensures
