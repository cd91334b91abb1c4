-- The limits are tested on the held index. Assumes nothing.
use Rattle.std.proofs.lemmas.Result.{err_from_is_err_and}
use Rattle.sheet.proofs.NumberLines.{count-refused, count_low, count-high, count-within}
use Rattle.sheet.proofs.lines.count_at.Goals as goal
use Rattle.sheet.proofs.lines.count_at.Goals.{then-n-lo-via-then-n-lo, then-n-lo-via-else-n-lo+then-hi-n}

pub returns-in_err-n : goal.returns-in_err-n
returns-in_err-n c =
    let p = err_from_is_err_and c.from_residual.result c.from_residual.ensures.1 in rw (p.1, p.2) (count-refused _ _ _ _ c.requires c.in_err-n.ensures)

pub returns-then-n-lo : goal.returns-then-n-lo
returns-then-n-lo c =
    rw c.new.ensures (elim c.then-n-lo.branch [
      | then-n-lo-via-then-n-lo w ↦ count_low _ _ _ _ c.requires c.in_ok-n.ensures w.if-n-lo.true
      | then-n-lo-via-else-n-lo+then-hi-n w ↦ count-high _ _ _ _ c.requires c.in_ok-n.ensures w.if-hi-n.true
    ])

pub returns : goal.returns
returns c = count-within _ _ _ _ c.requires c.in_ok-n.ensures c.if-n-lo.false c.if-hi-n.false
