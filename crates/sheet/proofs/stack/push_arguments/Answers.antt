-- The arguments are terms, beside the number. Assumes nothing.
use Prim.Native.Nat.{◌-◌}
use native.Mathlib.Omega.{arith}
use mathlib.Core.Path.{sym, ap}
use Rattle.tables.specs.Codes.{procedure_code}
use Rattle.sheet.specs.Sorts.{Operands}
use Rattle.sheet.specs.Sorts.{term_sort, operands}
use Rattle.sheet.proofs.CodeOperands.{operands-number}
use Rattle.sheet.specs.Stack.{worded}
use Rattle.sheet.proofs.Opened.{below-number, opened-operands}
use Rattle.sheet.proofs.stack.push_arguments.Goals as goal

pub repeat-requires : goal.repeat-requires
repeat-requires c =
    (omega (arith, ap (λ (o : Operands). o.count) (operands-number _ c.requires.3), c.requires.0), c.requires.1)

pub returns : goal.returns
returns c =
    let e = worded c.args.e in
    let t = c.args.t in
    rw c.repeat.ensures.0
    (opened-operands c.args.w.now _ c.args.n e t (omega (arith, c.requires.2)) (operands term_sort (t.code - procedure_code)) (sym (operands-number _ c.requires.3)) e.room
    (λ d m h. below-number e d m c.requires.2) c.repeat.ensures.1)
