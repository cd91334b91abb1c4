-- The key, the value and the line feed, in order. Assumes nothing.
use mathlib.Core.Path.{refl}
use Rattle.std.proofs.lemmas.Result.{err_from_is_err_and}
use Rattle.sheet.proofs.ArrayLine.{lined-no, lined-refused, lined-open, lined-found}
use Rattle.sheet.proofs.arrays.arrays_line.Goals as goal

pub returns-in_err-from : goal.returns-in_err-from
returns-in_err-from c =
    let p = err_from_is_err_and c.from_residual.result c.from_residual.ensures.1 in rw (p.1, p.2) (lined-no _ _ _ c.in_err-from.ensures, refl)

pub returns-in_err-arrays : goal.returns-in_err-arrays
returns-in_err-arrays c =
    let p = err_from_is_err_and c.from_residual-in_err-arrays.result c.from_residual-in_err-arrays.ensures.1 in rw (p.1, p.2) (lined-refused _ _ _ c.in_ok-from.ensures _ c.contents.new.w c.in_err-arrays.ensures, c.contents.auto.w)

pub returns-in_err-mark : goal.returns-in_err-mark
returns-in_err-mark c =
    let p = err_from_is_err_and c.from_residual-in_err-mark.result c.from_residual-in_err-mark.ensures.1 in rw (p.1, p.2) (lined-open _ _ _ c.in_ok-from.ensures _ _ c.in_ok-arrays.ensures c.in_err-mark.ensures.reading, c.contents.auto.w)

pub returns : goal.returns
returns c = lined-found _ _ _ c.in_ok-from.ensures _ _ c.in_ok-arrays.ensures c.in_ok-mark.ensures.reading
