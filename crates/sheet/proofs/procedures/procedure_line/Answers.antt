-- The number of parameters, then the formula. Assumes nothing.
use Rattle.std.proofs.lemmas.Result.{err_from_is_err_and}
use Rattle.sheet.proofs.ProcedureLines.{head-refused, head-found}
use Rattle.sheet.proofs.procedures.procedure_line.Goals as goal

pub returns-in_err-n : goal.returns-in_err-n
returns-in_err-n c =
    let p = err_from_is_err_and c.from_residual.result c.from_residual.ensures.1 in rw (p.1, p.2) (head-refused _ _ c.args.p c.args.w.now c.requires _ c.in_err-n.ensures.reading)

pub body-requires : goal.body-requires
body-requires c = head-found _ _ c.args.p c.args.w.now c.requires c.in_ok-n.ensures.reading c.in_ok-n.ensures.within
