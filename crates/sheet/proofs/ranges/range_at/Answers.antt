-- The lowest value, the colon, the highest, then the order. Assumes nothing.
use Rattle.std.proofs.lemmas.Result.{err_from_is_err_and}
use Rattle.sheet.proofs.RangeRead.{range-refused, range-no, range-high, range-empty, range-found}
use Rattle.sheet.proofs.ranges.range_at.Goals as goal

pub returns-in_err-lo : goal.returns-in_err-lo
returns-in_err-lo c =
    let p = err_from_is_err_and c.from_residual.result c.from_residual.ensures.1 in rw (p.1, p.2) (range-refused _ _ c.in_err-lo.ensures)

pub returns-in_err-from : goal.returns-in_err-from
returns-in_err-from c =
    let p = err_from_is_err_and c.from_residual-in_err-from.result c.from_residual-in_err-from.ensures.1 in rw (p.1, p.2) (range-no _ _ _ c.in_ok-lo.ensures c.in_err-from.ensures.reading)

pub returns-in_err-hi : goal.returns-in_err-hi
returns-in_err-hi c =
    let p = err_from_is_err_and c.from_residual-in_err-hi.result c.from_residual-in_err-hi.ensures.1 in rw (p.1, p.2) (range-high _ _ _ c.in_ok-lo.ensures c.in_ok-from.ensures.reading c.in_err-hi.ensures)

pub returns-then-hi-lo : goal.returns-then-hi-lo
returns-then-hi-lo c = rw c.new.ensures (range-empty _ _ _ c.in_ok-lo.ensures c.in_ok-from.ensures.reading _ c.in_ok-hi.ensures c.if-hi-lo.true)

pub returns : goal.returns
returns c = range-found _ _ _ c.in_ok-lo.ensures c.in_ok-from.ensures.reading _ c.in_ok-hi.ensures c.if-hi-lo.false
