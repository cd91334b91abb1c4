-- `plotter::takes` meets its contract: its masks test the two bits.
use Rattle.plotter.specs.Port.{ready, paper_out, takes}
use Rattle.plotter.proofs.Laws.Bits.{mask-zero, set_if, clear-if}
use Rattle.plotter.proofs.takes.Goals as goal

pub returns-then-port-ne0 : goal.returns-then-port-ne0
unfolding takes
returns-then-port-ne0 c =
    let status = c.args.port.status in
    rw (set_if ready status c.if-port-ne0.true) (mask-zero paper_out status)

pub returns-else-port-ne0 : goal.returns-else-port-ne0
unfolding takes
returns-else-port-ne0 c = rw (clear-if ready c.args.port.status c.if-port-ne0.false, c.if-port-ne0.false)
