-- `page::closing` meets its contract. Assumes nothing.
use native.Mathlib.Omega.{arith}
use Rattle.std.proofs.Common.{rules}
use Rattle.page.proofs.Lines.{closed}
use Rattle.page.proofs.closing.Goals as goal

pub returns : goal.returns
returns c =
    let p = closed c.args.outcome c.new-written.ensures.held c.new-written.ensures.start (omega arith) c.closing_lines.ensures in
    search rules
