-- The edition's line first, and then the sheet. Assumes nothing.
use Rattle.sheet.proofs.Only.{only-refused, only-found}
use Rattle.sheet.proofs.read_only.Goals as goal

pub returns-in-Err : goal.returns-in-Err
returns-in-Err c = let a = c.args in only-refused a.s.now a.edition a.strict _ _ c.in-Err.ensures.reading _ c.clear.ensures

pub returns-in-Ok : goal.returns-in-Ok
returns-in-Ok c =
    let a = c.args in
    only-found a.s.now a.edition a.strict _ c.in-Ok.ensures.reading c.read_sheet.ensures.0 c.read_sheet.ensures.1
