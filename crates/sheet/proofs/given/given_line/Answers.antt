-- The key, the value and the line feed, in order. Assumes nothing.
use mathlib.Core.Path.{refl}
use Rattle.std.proofs.lemmas.Result.{err_from_is_err_and}
use Rattle.sheet.proofs.GivenLine.{lined-no, lined-refused, lined-done}
use Rattle.sheet.proofs.given.given_line.Goals as goal

pub returns-in_err-from : goal.returns-in_err-from
returns-in_err-from c = λ D d. let p = err_from_is_err_and c.from_residual.result c.from_residual.ensures.1 in rw (p.1, p.2) (lined-no D _ _ c.in_err-from.ensures, refl)

pub returns-in_err-e : goal.returns-in_err-e
returns-in_err-e c = λ D d. let p = err_from_is_err_and c.from_residual-in_err-e.result c.from_residual-in_err-e.ensures.1 in rw (p.1, p.2) (lined-refused D _ _ c.in_ok-from.ensures _ c.contents.new.w (c.in_err-e.ensures D d), c.contents.auto.w)

pub returns : goal.returns
returns c = λ D d. lined-done D _ _ c.in_ok-from.ensures _ _ (c.in_ok-e.ensures D d) c.contents.auto.w _ c.mark.ensures.reading
