-- `tidy` is `carry` on its way.
use Rattle.vodlasim.proofs.tidy.Goals as goal

pub returns : goal.returns
returns c = c.carry.ensures
