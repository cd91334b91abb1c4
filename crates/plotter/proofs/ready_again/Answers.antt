-- `plotter::ready_again` meets its contract: its masks set ready, and pending where control's bit is set.
use Rattle.plotter.specs.Port.{ready, pending, interrupts, put, occur}
use Rattle.plotter.proofs.Laws.Bits.{mask-sets, set_if, clear-if}
use Rattle.plotter.proofs.ready_again.Goals as goal

pub returns-then-port-ne0 : goal.returns-then-port-ne0
unfolding occur
returns-then-port-ne0 c =
    let port = c.args.port in
    rw (mask-sets ready port.status, mask-sets pending (put ready 1 port.status), set_if interrupts port.control c.if-port-ne0.true)

pub returns : goal.returns
unfolding occur
returns c =
    let port = c.args.port in
    rw (mask-sets ready port.status, clear-if interrupts port.control c.if-port-ne0.false)
