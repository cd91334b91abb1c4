-- `advance::turn` meets its contract.
use Rattle.walker.proofs.Laws.Loops.{turn-simulates, turned}
use Rattle.walker.proofs.advance.turn.Goals as goal

pub risen-c-requires : goal.risen-c-requires
risen-c-requires c = turn-simulates c.requires c.visit-v.ensures

pub returns : goal.returns
returns c =
    turned c.visit-v.ensures c.risen-c.ensures c.limited.ensures
