-- `registers::start` meets its contract.
use native.Mathlib.Nat.{zero-add}
use Rattle.walker.proofs.registers.start.Goals as goal

pub returns : goal.returns
returns c = rw (c.least.ensures, zero-add)
