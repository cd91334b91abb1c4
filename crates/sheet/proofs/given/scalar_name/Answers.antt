-- The letter, then the index. Assumes nothing.
use Rattle.std.proofs.lemmas.Result.{err_from_is_err_and}
use Rattle.sheet.proofs.CellNames.{scalar-no, scalar-refused, scalar-found}
use Rattle.sheet.proofs.given.scalar_name.Goals as goal

pub returns-in_err-from : goal.returns-in_err-from
returns-in_err-from c =
    let p = err_from_is_err_and c.from_residual.result c.from_residual.ensures.1 in rw (p.1, p.2) (scalar-no _ _ c.in_err-from.ensures)

pub returns-in_err-n : goal.returns-in_err-n
returns-in_err-n c =
    let p = err_from_is_err_and c.from_residual-in_err-n.result c.from_residual-in_err-n.ensures.1 in rw (p.1, p.2) (scalar-refused _ _ c.in_ok-from.ensures c.in_err-n.ensures)

pub returns : goal.returns
returns c = scalar-found _ _ c.in_ok-from.ensures c.in_ok-n.ensures
