-- The letter, the array's index, the point, then the element's. Assumes nothing.
use Rattle.std.proofs.lemmas.Result.{err_from_is_err_and}
use Rattle.sheet.proofs.CellNames.{element-no, element-refused, element-no-point, element-stops, element-found}
use Rattle.sheet.proofs.given.element_name.Goals as goal

pub returns-in_err-from : goal.returns-in_err-from
returns-in_err-from c =
    let p = err_from_is_err_and c.from_residual.result c.from_residual.ensures.1 in rw (p.1, p.2) (element-no _ _ c.in_err-from.ensures)

pub returns-in_err-a : goal.returns-in_err-a
returns-in_err-a c =
    let p = err_from_is_err_and c.from_residual-in_err-a.result c.from_residual-in_err-a.ensures.1 in rw (p.1, p.2) (element-refused _ _ c.in_ok-from.ensures c.in_err-a.ensures)

pub returns-in_err-element : goal.returns-in_err-element
returns-in_err-element c =
    let p = err_from_is_err_and c.from_residual-in_err-element.result c.from_residual-in_err-element.ensures.1 in rw (p.1, p.2) (element-no-point _ _ c.in_ok-from.ensures c.in_ok-a.ensures c.in_err-element.ensures.reading)

pub returns-in_err-i : goal.returns-in_err-i
returns-in_err-i c =
    let p = err_from_is_err_and c.from_residual-in_err-i.result c.from_residual-in_err-i.ensures.1 in rw (p.1, p.2) (element-stops _ _ c.in_ok-from.ensures c.in_ok-a.ensures c.in_ok-element.ensures.reading c.in_err-i.ensures)

pub returns : goal.returns
returns c = element-found _ _ c.in_ok-from.ensures c.in_ok-a.ensures c.in_ok-element.ensures.reading c.in_ok-i.ensures
