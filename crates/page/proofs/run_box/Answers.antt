-- `page::run_box` meets its contract. Assumes nothing.
use native.Mathlib.Omega.{arith}
use Rattle.page.proofs.Box.{paged}
use Rattle.page.proofs.run_box.Goals as goal

pub returns : goal.returns
returns c = paged (omega arith) (omega arith) c.run-outcome.ensures c.written.ensures c.closing.ensures
