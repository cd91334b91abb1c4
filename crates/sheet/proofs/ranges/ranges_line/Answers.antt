-- None before edition 3; then the key, the ranges and the line feed, in order. Assumes nothing.
use mathlib.Core.Path.{refl}
use Rattle.std.proofs.lemmas.Result.{err_from_is_err_and}
use Rattle.sheet.proofs.RangeLine.{line-none, line-no, line_refused, line-done}
use Rattle.sheet.proofs.ranges.ranges_line.Goals as goal

pub returns-then-d-lt-FIRST_EDITION : goal.returns-then-d-lt-FIRST_EDITION
returns-then-d-lt-FIRST_EDITION c = line-none _ _ _ _ _ _ c.if-d-lt-FIRST_EDITION.true

pub returns-in_err-from : goal.returns-in_err-from
returns-in_err-from c =
    let p = err_from_is_err_and c.from_residual.result c.from_residual.ensures.1 in rw (p.1, p.2) (line-no _ _ _ _ _ c.if-d-lt-FIRST_EDITION.false c.in_err-from.ensures, refl)

pub returns-in_err-e : goal.returns-in_err-e
returns-in_err-e c =
    let p = err_from_is_err_and c.from_residual-in_err-e.result c.from_residual-in_err-e.ensures.1 in rw (p.1, p.2) (line_refused _ _ _ _ _ c.if-d-lt-FIRST_EDITION.false c.in_ok-from.ensures _ c.ranges_at.new.w c.requires.0 c.in_err-e.ensures, c.ranges_at.auto.w)

pub returns : goal.returns
returns c =
    line-done _ _ _ _ _ c.if-d-lt-FIRST_EDITION.false c.in_ok-from.ensures _ _ c.requires.0 c.in_ok-e.ensures c.ranges_at.auto.w _ c.mark.ensures.reading
