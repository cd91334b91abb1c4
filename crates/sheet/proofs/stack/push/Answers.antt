-- By the sort that was due. Assumes nothing.
use native.Mathlib.Omega.{arith}
use Prim.Native.Nat.{◌+◌}
use mathlib.Core.Path.{refl, ap, ◌∙◌}
use Rattle.sheet.specs.Sorts.{bounds_sort, sort_number}
use Rattle.sheet.specs.Stack.{worded, entry, entered}
use Rattle.sheet.proofs.Opened.{opened-ex, opened-range}
use Rattle.sheet.proofs.stack.push.Goals as goal

pub returns-in-ExLocal : goal.returns-in-ExLocal
returns-in-ExLocal c =
    let a = c.args in
    rw (c.put.ensures ∙ ap (entered a.w.now a.n) c.body.ensures) (opened-ex a.w.now a.n (worded a.e) a.t c.requires.0 c.requires.1 _ refl (ap sort_number c.in-ExLocal.is))

pub returns-in-RangeLocal : goal.returns-in-RangeLocal
returns-in-RangeLocal c =
    let a = c.args in
    let is = ap sort_number c.in-RangeLocal.is in
    let first = c.put-in-RangeLocal.ensures ∙ ap (entered a.w.now a.n) c.body-in-RangeLocal.ensures in
    rw (c.put-in-RangeLocal-2.ensures ∙ ap (λ w. entered w (a.n + 1) (entry bounds_sort a.e.room a.e.scope)) first)
    (opened-range a.w.now a.n (worded a.e) a.t c.requires.0 c.requires.1 _ refl (omega (arith, is)) (λ q. omega (arith, is)))
