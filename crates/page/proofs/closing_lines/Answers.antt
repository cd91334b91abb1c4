-- `page::closing_lines` meets its contract. Assumes nothing.
use Rattle.page.proofs.Lines.{lined-refused, lined-ran}
use Rattle.page.proofs.closing_lines.Goals as goal

pub returns-in-Err : goal.returns-in-Err
returns-in-Err c = lined-refused c.in-Err.is c.refusal_lines.ensures

pub returns-in-Ok : goal.returns-in-Ok
returns-in-Ok c = lined-ran c.in-Ok.is c.end_line.ensures c.tally_lines.ensures
