-- The operands of a word are of one sort. Assumes nothing.
use Prim.Native.Nat.{◌-◌}
use native.Mathlib.Omega.{arith}
use mathlib.Core.Path.{ap, ◌∙◌}
use Rattle.sheet.specs.Sorts.{Operands}
use Rattle.sheet.proofs.CodeOperands.{operands-word}
use Rattle.sheet.specs.Stack.{worded}
use Rattle.sheet.proofs.Opened.{below_other, opened-operands}
use Rattle.sheet.proofs.stack.push_operands.Goals as goal

pub repeat-requires : goal.repeat-requires
repeat-requires c =
    let is = c.word_operands-o.ensures ∙ operands-word _ c.requires.4 in
    (omega (arith, ap (λ (o : Operands). o.count) is, c.requires.0), c.requires.1)

pub returns : goal.returns
returns c =
    let e = worded c.args.e in
    let is = c.word_operands-o.ensures ∙ operands-word _ c.requires.4 in
    rw c.repeat.ensures.0
    (opened-operands c.args.w.now _ c.args.n e c.args.t (omega (arith, c.requires.3)) _ is (e.room - 1)
    (λ d m h. below_other e d m (λ q. omega (arith, c.requires.3)) h) c.repeat.ensures.1)
