-- `move_down` is `carry` on its way.
use Rattle.vodlasim.proofs.move_down.Goals as goal

pub returns : goal.returns
returns c = c.carry.ensures
