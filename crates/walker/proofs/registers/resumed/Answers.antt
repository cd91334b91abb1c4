-- `registers::resumed` meets its contract.
use mathlib.Core.Path.{refl}
use Rattle.walker.proofs.registers.resumed.Goals as goal

pub returns : goal.returns
returns c = rw c.least.ensures refl
