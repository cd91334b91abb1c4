-- The three words of an entry. Assumes nothing.
use Prim.Native.Nat.{ℕ, ◌+◌}
use mathlib.Core.Path.{ap}
use native.Mathlib.Omega.{arith}
use lib.ListN.{set, length-set}
use Rattle.tables.specs.Layout.{due_slot}
use Rattle.sheet.proofs.stack.put.Goals as goal

pub bounds-w-at-2 : goal.bounds-w-at-2
bounds-w-at-2 c = simp length-set (omega arith)

pub bounds-w-at-3 : goal.bounds-w-at-3
bounds-w-at-3 c = simp length-set (omega arith)

pub shape_of-w : goal.shape_of-w
shape_of-w c = simp length-set

pub returns : goal.returns
returns c =
    let at = due_slot c.args.i in
    let e = c.args.e in
    ap (λ (k : ℕ). set (set (set c.args.w.now at k) (at + 1) e.room) (at + 2) e.scope) c.from.ensures
