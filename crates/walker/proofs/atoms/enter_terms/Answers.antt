-- `atoms::enter_terms` meets its contract.
use Rattle.walker.proofs.Laws.Told.{stepped-known}
use Rattle.walker.proofs.atoms.enter_terms.Goals as goal

pub decide-requires : goal.decide-requires
decide-requires c = c.both-s.ensures.decides

pub returns : goal.returns
returns c =
    stepped-known c.both-s.ensures c.decide.ensures
