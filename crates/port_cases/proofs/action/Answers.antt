-- `port_cases::action` meets its contract: a step sends no more than there is, and an event nothing.
use native.Mathlib.Omega.{arith}
use Rattle.plotter.proofs.Laws.Sent.{step_fits}
use Rattle.port_cases.proofs.action.Goals as goal

pub returns-then-letter-eq115 : goal.returns-then-letter-eq115
returns-then-letter-eq115 c =
    let args = c.args in
    omega (arith, c.step.ensures.sent, step_fits args.port args.unsent.now)
