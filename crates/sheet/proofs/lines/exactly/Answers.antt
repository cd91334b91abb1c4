-- By the bytes at the place. Assumes nothing.
use mathlib.Core.Path.{◌∙◌, sym}
use native.Mathlib.Omega.{arith}
use Rattle.text.proofs.Laws.Keys.{key_fits}
use Rattle.sheet.proofs.Keys.{exactly-yes, exactly-no}
use Rattle.sheet.proofs.lines.exactly.Goals as goal

pub overflow_add-result : goal.overflow_add-result
overflow_add-result c = omega (arith, key_fits c.args.s.now c.args.bytes.now c.args.at (sym c.begins.ensures ∙ c.if-begins.true))

pub returns-then-begins : goal.returns-then-begins
returns-then-begins c = exactly-yes _ _ _ _ (sym c.if-begins.true ∙ c.begins.ensures)

pub returns-else-begins : goal.returns-else-begins
returns-else-begins c = rw c.new.ensures (exactly-no _ _ _ _ (sym c.if-begins.false ∙ c.begins.ensures))
