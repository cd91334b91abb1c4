-- The three words of an entry. Assumes nothing.
use Prim.Native.Nat.{ℕ, ◌+◌}
use mathlib.Core.Path.{ap}
use lib.ListN.{get_or}
use Rattle.tables.specs.Layout.{due_slot}
use Rattle.sheet.specs.Stack.{entry}
use Rattle.sheet.proofs.stack.get.Goals as goal

pub returns : goal.returns
returns c =
    let w = c.args.w.now in
    let at = due_slot c.args.i in
    ap (λ (k : ℕ). entry k (get_or w (at + 1) 0) (get_or w (at + 2) 0)) c.from.ensures
