-- A binder's local is bound. Assumes nothing.
use native.Mathlib.Omega.{arith}
use Rattle.sheet.proofs.Bits.{bits-more}
use Rattle.sheet.proofs.Faults.{binds-local}
use Rattle.sheet.proofs.SortNumbers.{binder}
use Rattle.sheet.proofs.formula.bound_after.Goals as goal

pub returns-in-ExLocal : goal.returns-in-ExLocal
returns-in-ExLocal c =
    λ d B m b. rw (binds-local d c.args.t B (omega (arith, m.sort, binder c.args.e.sort c.in-ExLocal.is)), c.with.ensures) (bits-more c.args.t.operand b)
