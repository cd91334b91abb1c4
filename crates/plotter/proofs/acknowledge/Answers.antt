-- `plotter::acknowledge` meets its contract: its mask clears the bit.
use Rattle.std.proofs.Common.{ℕ, ap, arith}
use Rattle.plotter.specs.Port.{pending, with_status, acknowledged}
use Rattle.plotter.proofs.Laws.Bits.{mask-clears}
use Rattle.plotter.proofs.acknowledge.Goals as goal

pub returns : goal.returns
unfolding acknowledged
returns c =
    let port = c.args.port in
    ap (λ (r : ℕ). with_status r port) (mask-clears 8 pending port.status (omega arith) (omega arith))
