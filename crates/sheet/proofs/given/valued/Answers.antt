-- The colon, the value, then the cell. Assumes nothing.
use mathlib.Core.Path.{◌∙◌, sym}
use Rattle.std.proofs.lemmas.Result.{err_from_is_err_and}
use Rattle.sheet.proofs.GivenItems.{valued-no, valued-refused, valued-undeclared, valued-low, valued-outside, valued_found}
use Rattle.sheet.proofs.given.valued.Goals as goal

pub returns-in_err-from : goal.returns-in_err-from
returns-in_err-from c =
    let p = err_from_is_err_and c.from_residual.result c.from_residual.ensures.1 in rw (p.1, p.2) (valued-no _ _ _ _ _ _ c.in_err-from.ensures.reading)

pub returns-in_err-word : goal.returns-in_err-word
returns-in_err-word c =
    let p = err_from_is_err_and c.from_residual-in_err-word.result c.from_residual-in_err-word.ensures.1 in rw (p.1, p.2) (valued-refused _ _ _ _ _ _ c.in_ok-from.ensures.reading c.in_err-word.ensures)

pub returns-in_default : goal.returns-in_default
returns-in_default c = rw c.new.ensures (valued-undeclared _ _ _ _ _ _ c.in_ok-from.ensures.reading _ c.in_ok-word.ensures c.in_default.is)

pub returns-then-cell-floor : goal.returns-then-cell-floor
returns-then-cell-floor c =
    rw c.new-then-cell-floor.ensures (valued-low _ _ _ _ _ _ c.in_ok-from.ensures.reading _ c.in_ok-word.ensures _ c.in-Some.is c.if-cell-floor.true)

pub returns-then-not-allows : goal.returns-then-not-allows
returns-then-not-allows c =
    rw c.new-then-not-allows.ensures
    (valued-outside _ _ _ _ _ _ c.in_ok-from.ensures.reading _ c.in_ok-word.ensures _ c.in-Some.is c.if-cell-floor.false (rw c.mark-mark.ensures at (sym c.allows.ensures ∙ c.if-not-allows.true)))

pub returns : goal.returns
returns c =
    valued_found _ _ _ _ _ _ c.in_ok-from.ensures.reading _ c.in_ok-word.ensures _ c.in-Some.is c.if-cell-floor.false (rw c.mark-mark.ensures at (sym c.allows.ensures ∙ c.if-not-allows.false))
