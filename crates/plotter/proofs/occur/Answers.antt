-- `plotter::occur` meets its contract: its masks set and clear the bit that each event names.
use Rattle.std.proofs.Common.{ℕ, ap, arith}
use Rattle.plotter.specs.Port.{paper_out, interrupts, with_status, with_control, occur}
use Rattle.plotter.proofs.Laws.Bits.{mask-sets, mask-clears}
use Rattle.plotter.proofs.occur.Goals as goal

pub returns-in-OutOfPaper : goal.returns-in-OutOfPaper
unfolding occur
returns-in-OutOfPaper c =
    let port = c.args.port in
    rw (c.in-OutOfPaper.is) (ap (λ (r : ℕ). with_status r port) (mask-sets paper_out port.status))

pub returns-in-PaperIn : goal.returns-in-PaperIn
unfolding occur
returns-in-PaperIn c =
    let port = c.args.port in
    rw (c.in-PaperIn.is) (ap (λ (r : ℕ). with_status r port) (mask-clears 8 paper_out port.status (omega arith) (omega arith)))

pub returns-in-InterruptsOn : goal.returns-in-InterruptsOn
unfolding occur
returns-in-InterruptsOn c =
    let port = c.args.port in
    rw (c.in-InterruptsOn.is) (ap (λ (r : ℕ). with_control r port) (mask-sets interrupts port.control))

pub returns-in-InterruptsOff : goal.returns-in-InterruptsOff
unfolding occur
returns-in-InterruptsOff c =
    let port = c.args.port in
    rw (c.in-InterruptsOff.is) (ap (λ (r : ℕ). with_control r port) (mask-clears 8 interrupts port.control (omega arith) (omega arith)))
