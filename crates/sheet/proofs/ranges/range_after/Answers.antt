-- The first range, or a comma and a range. Assumes nothing.
use Rattle.std.proofs.lemmas.Result.{err_from_is_err_and}
use Rattle.sheet.proofs.RangeRead.{lead-first, lead-no, lead-yes}
use Rattle.sheet.proofs.ranges.range_after.Goals as goal

pub returns-then-k-eq0 : goal.returns-then-k-eq0
returns-then-k-eq0 c = lead-first _ _ _ c.if-k-eq0.true _ c.range_at.ensures

pub returns-in_err-from : goal.returns-in_err-from
returns-in_err-from c =
    let p = err_from_is_err_and c.from_residual.result c.from_residual.ensures.1 in rw (p.1, p.2) (lead-no _ _ _ c.if-k-eq0.false c.in_err-from.ensures.reading)

pub returns : goal.returns
returns c = lead-yes _ _ _ c.if-k-eq0.false c.in_ok-from.ensures.reading _ c.range_at-2.ensures
