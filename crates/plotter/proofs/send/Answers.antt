-- `plotter::send` meets its contract: its mask clears ready, and `summed` moves sum on.
use Rattle.std.proofs.Common.{arith}
use Rattle.plotter.specs.Port.{ready, send}
use Rattle.plotter.proofs.Laws.Bits.{mask-clears}
use Rattle.plotter.proofs.send.Goals as goal

pub returns : goal.returns
unfolding send
returns c =
    rw (mask-clears 8 ready c.args.port.status (omega arith) (omega arith), c.summed.ensures)
