-- `move_up` is `carry` on its way.
use Rattle.vodlasim.proofs.move_up.Goals as goal

pub returns : goal.returns
returns c = c.carry.ensures
