-- One entry is put. Assumes nothing.
use Rattle.sheet.proofs.stack.begin.Goals as goal

pub returns : goal.returns
returns c = c.put.ensures
