-- Its cells by the words, its own words, and then the marks. Assumes nothing.
use Prim.Native.Nat.{suc, ◌+◌}
use mathlib.Core.Path.{◌≡◌}
use native.Mathlib.Omega.{arith}
use Rattle.sheet.proofs.ranges.lay.Goals as goal

pub returns : goal.returns
returns c =
    let mark : 1 + c.args.k ≡ suc c.args.k = omega arith in
    rw (mark, c.set_range.ensures, c.first_of-from.ensures, c.end_of-end.ensures) at c.mark_cells.ensures
